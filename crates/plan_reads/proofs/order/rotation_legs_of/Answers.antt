use Rattle.std.proofs.Common.{◌<◌, length, sym, ap, ◌∙◌, ◌++◌, ◌∷◌, [], arith}
use Rattle.desk_data.specs.declared.row.Row.TheVariants.{Cancelled}
use Rattle.plan_reads.proofs.RotationLegLaws.{rotation_legs-flown, rotation_legs-other}
use Rattle.plan_reads.proofs.order.rotation_legs_of.Goals as goal
use Rattle.plan_reads.proofs.order.rotation_legs_of.Goals.{in-Flown+in_ok-push, in_default}

pub loop-x-preserved : goal.loop-x-preserved
loop-x-preserved g c =
    let rows = (g.P.ReadPlan.plan_of c.args.plan.now).rows in
    let x = c.loop-x.x in
    let within : x < length rows = omega (arith, c.requires, c.loop-x-test.true) in
    elim c.match-read_row.branch [
      | in-Flown+in_ok-push w ↦
          let plane = w.in-Flown.plane in
          let dep = w.in-Flown.dep in
          ap (λ v. v.items) w.flown-is ∙ w.in_ok-push.ensures.items
          ∙ ap (λ ts. ts ++ (record { plane = plane; at = record { dep = dep; leg = record { 0 = x } } }) ∷ []) c.loop-x.invariant
          ∙ sym (rotation_legs-flown rows x plane dep Cancelled within (sym c.read_row.ensures.row ∙ w.in-Flown.is))
      | in_default w ↦
          ap (λ v. v.items) w.flown-is ∙ c.loop-x.invariant
          ∙ sym (rotation_legs-other rows x Cancelled within (λ plane dep e. w.in_default.not-Flown plane dep (c.read_row.ensures.row ∙ e)))
    ]

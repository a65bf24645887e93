use Rattle.std.proofs.Common.{ap, ◌∙◌, arith}
use Rattle.near_notes.proofs.StillLaws.{seen-still, seen-touched}
use Rattle.near_notes.proofs.changes.Changes.between.Goals as goal
use Rattle.near_notes.proofs.changes.Changes.between.Goals.{then-is_still+in_ok-push, else-is_still+in_ok-push-2+in_ok-push-3}

pub loop-x-preserved : goal.loop-x-preserved
loop-x-preserved g c =
    let I = c.args.inst.now in
    let P = c.args.was.now in
    let Q = c.args.plan.now in
    let x = c.loop-x.x in
    let touched = c.loop-x.touched.items in
    let legs = c.loop-x.legs.items in
    elim c.if-is_still.branch [
      | then-is_still+in_ok-push w ↦
          rw (ap (λ v. v.items) w.touched-is ∙ w.in_ok-push.ensures.items, ap (λ v. v.items) w.legs-is)
          (seen-still I P Q x touched legs c.loop-x.invariant (c.is_still.ensures w.if-is_still.true))
      | else-is_still+in_ok-push-2+in_ok-push-3 w ↦
          rw (ap (λ v. v.items) w.touched-is ∙ w.in_ok-push-2.ensures.items, ap (λ v. v.items) w.legs-is ∙ w.in_ok-push-3.ensures.items)
          (seen-touched I P Q x touched legs c.loop-x.invariant (omega (arith, c.legs-x-end.ensures.count, c.loop-x-test.true, c.loop-x.auto.x-end)))
    ]

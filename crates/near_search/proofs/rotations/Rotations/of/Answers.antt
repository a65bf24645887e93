use Rattle.std.proofs.Common.{◌≡◌, ◌∙◌, map, ap, arith}
use Rattle.std.specs.Prelude.{is_none}
use Rattle.desk_data.specs.Situation.{planes_of}
use Rattle.desk_rules.specs.Numbers.{numbers}
use Rattle.desk_model.specs.Push.{rotation}
use Rattle.near_search.specs.Rotations.{numbers_of}
use Rattle.near_search.proofs.FirstLaws.{none_is}
use Rattle.near_search.proofs.RotationLaws.{lists-long}
use Rattle.near_search.proofs.rotations.Rotations.of.Goals as goal

pub returns : goal.returns
returns c =
    let I = c.args.eval.now.inst in
    let P = c.args.eval.now.rows in
    let count = rw c.instance.ensures at c.planes-p-end.ensures.count in
    let end : c.loop-p.p ≡ planes_of I = omega (arith, count) in
    let each : map (λ legs. numbers_of legs.items) c.loop-p.legs.items ≡ map (rotation I P) (numbers (planes_of I)) = c.loop-p.invariant.done ∙ ap (λ n. map (rotation I P) (numbers n)) end in
    record {
      feasible = none_is c.least_broken.result c.is_none-feasible.result c.is_none-feasible.ensures ∙ ap is_none c.least_broken.ensures;
      planes = lists-long (λ legs. numbers_of legs.items) (rotation I P) c.loop-p.legs.items (planes_of I) each;
      each = each;
      within = c.loop-p.invariant.within;
      payers = rw (c.instance-inst.ensures, c.plan-plan.ensures.rows) at c.in_ok-payers.ensures;
      payments = rw (c.instance-inst.ensures, c.plan-plan.ensures.rows) at c.in_ok-payments.ensures;
      times = rw (c.instance-inst.ensures, c.plan-plan.ensures.rows) at c.in_ok-times.ensures;
      owed = rw (c.instance-inst.ensures, c.plan-plan.ensures.rows) at c.in_ok-owed.ensures;
    }

use Rattle.std.proofs.Common.{refl, arith}
use Rattle.std.proofs.lemmas.List.Sums.{sum_by_more}
use Rattle.desk_units.specs.declared.numbers.Leg.{Leg}
use Rattle.near_draft.specs.Drafts.{plan_of}
use Rattle.near_priced.specs.Saved.{saved_on}
use Rattle.near_priced.proofs.saved.left_by_savings.Goals as goal

pub loop-leg-preserved : goal.loop-leg-preserved
loop-leg-preserved c =
    let I = c.args.inst.now in
    let P = c.args.plan.now in
    let S = plan_of c.args.draft.now in
    let more = sum_by_more (λ (leg : Leg). saved_on I P S leg.0) c.args.legs.now c.loop-leg.leg-index (record { 0 = 0 }) c.loop-leg-test.true in
    omega (arith, more, c.in_ok-left.ensures c.in_ok-left.left refl, c.loop-leg.invariant)

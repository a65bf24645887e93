use Rattle.std.proofs.Common.{◌≡◌, false, take}
use Rattle.std.specs.List.{All}
use Rattle.near_notes.specs.Onward.{may_follow}
use Rattle.near_notes.proofs.untouched.may_use_none.Given as goal

abbrev pub invariant-loop-leg : goal.invariant-loop-leg
invariant-loop-leg l = All (λ leg. may_follow l.plans.inst.now l.plans.plan.now l.outset leg.0 ≡ false) (take l.leg-index l.leg-items)

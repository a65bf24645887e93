use Rattle.std.proofs.Common.{◌≤◌, get_or, take}
use Rattle.std.specs.Prelude.{sum_by}
use Rattle.near_dear.proofs.times.paid_by.Given as goal

abbrev pub invariant-loop-leg : goal.invariant-loop-leg
invariant-loop-leg l = sum_by (λ leg. get_or l.amounts leg.0 0) (take l.leg-index l.legs) ≤ l.paid

use Rattle.std.proofs.Common.{◌≡◌, ◌+◌, take}
use Rattle.std.specs.Prelude.{sum_by}
use Rattle.near_priced.specs.Tables.{amount}
use Rattle.near_dear.proofs.left.left_by_legs.Given as goal

abbrev pub invariant-loop-leg : goal.invariant-loop-leg
invariant-loop-leg l = sum_by (λ leg. amount l.amounts leg.0) (take l.leg-index l.legs) + l.left ≡ l.limit

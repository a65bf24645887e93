use Rattle.std.proofs.Common.{map}
use Rattle.ferry_legs.specs.Positions.{ArePositions, hand_of_first}
use Rattle.ferry_legs.proofs.opening.positions_at_first.Given as goal

-- the aircraft so far
abbrev pub invariant-loop-p : goal.invariant-loop-p
invariant-loop-p l = ArePositions l.inst (hand_of_first l.p l.inst l.plan) (map (λ r. r.items) l.airports.items)

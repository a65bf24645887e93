use Rattle.near_dear.specs.Owed.{AreOwed}
use Rattle.near_dear.proofs.owed.owed_by_leg.Given as goal

-- of the reservations so far
abbrev pub invariant-loop-r : goal.invariant-loop-r
invariant-loop-r l = AreOwed l.inst l.plan l.owed.items l.r

use Rattle.near_priced.specs.Payers.{AreMarked}
use Rattle.near_priced.proofs.marks.mark_all.Given as goal

-- of the reservations so far
abbrev pub invariant-loop-r : goal.invariant-loop-r
invariant-loop-r l = AreMarked l.inst l.plan l.on.items l.booked.items l.r

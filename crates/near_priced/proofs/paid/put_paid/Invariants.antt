use Rattle.near_priced.specs.Tables.{AreAmounts}
use Rattle.near_priced.proofs.paid.put_paid.Given as goal

-- of the reservations so far
abbrev pub invariant-loop-r : goal.invariant-loop-r
invariant-loop-r l = AreAmounts l.inst l.plan l.on.items l.booked.items l.r

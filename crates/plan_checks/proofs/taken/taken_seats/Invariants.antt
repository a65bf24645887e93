use Rattle.plan_checks.specs.TakenSeats.{AreTaken}
use Rattle.plan_checks.proofs.taken.taken_seats.Given as goal

abbrev pub invariant-loop-r : goal.invariant-loop-r
invariant-loop-r l = AreTaken l.inst l.plan l.r l.taken.items

use Rattle.near_untouched.specs.Positions.{AreElsewhere}
use Rattle.near_untouched.proofs.ends.elsewhere.Given as goal

abbrev pub invariant-loop-p : goal.invariant-loop-p
invariant-loop-p l = AreElsewhere l.p l.was l.now l.planes.items

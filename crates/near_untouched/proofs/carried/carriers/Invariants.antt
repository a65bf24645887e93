use Rattle.near_untouched.specs.Carried.{AreCarriedTold}
use Rattle.near_untouched.proofs.carried.carriers.Given as goal

-- of the reservations so far
abbrev pub invariant-loop-r : goal.invariant-loop-r
invariant-loop-r l = AreCarriedTold l.r l.inst l.earlier l.later l.marks.items

use Rattle.near_untouched.specs.Again.{AreRestorableOfFirst}
use Rattle.near_untouched.proofs.again.restorable_legs.Given as goal

abbrev pub invariant-loop-x : goal.invariant-loop-x
invariant-loop-x l = AreRestorableOfFirst l.x l.inst l.plan l.legs.items

use Rattle.near_untouched.specs.Marks.{AreChangedOfFirst}
use Rattle.near_untouched.proofs.changed.changed_legs.Given as goal

abbrev pub invariant-loop-x : goal.invariant-loop-x
invariant-loop-x l = AreChangedOfFirst l.x l.plans.earlier.now l.plans.later.now l.legs.items

use Rattle.near_legs.specs.LegTables.{IsInverse}
use Rattle.near_legs.proofs.after.inverse.Given as goal

abbrev pub invariant-loop-y : goal.invariant-loop-y
invariant-loop-y l = IsInverse l.y l.before l.after.items

use Rattle.std.proofs.Common.{map}
use Rattle.near_legs.specs.LegTables.{AreListed}
use Rattle.near_legs.proofs.lists.lists.Given as goal

abbrev pub invariant-loop-x : goal.invariant-loop-x
invariant-loop-x l = AreListed l.x l.inst l.plan l.by (map (λ r. r.items) l.lists.items)

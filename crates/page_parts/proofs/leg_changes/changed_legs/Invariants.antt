use Rattle.std.proofs.Common.{◌≡◌}
use Rattle.page_parts.specs.Legs.{changed_legs}
use Rattle.page_parts.proofs.leg_changes.changed_legs.Given as goal

-- the changed legs so far
abbrev pub invariant-loop-x : goal.invariant-loop-x
invariant-loop-x l = l.out.items ≡ changed_legs l.before l.now l.x

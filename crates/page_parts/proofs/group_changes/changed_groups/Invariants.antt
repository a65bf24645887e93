use Rattle.std.proofs.Common.{◌≡◌}
use Rattle.page_parts.specs.Groups.{changed_groups}
use Rattle.page_parts.proofs.group_changes.changed_groups.Given as goal

-- the changed groups of the reservations so far
abbrev pub invariant-loop-r : goal.invariant-loop-r
invariant-loop-r l = l.out.items ≡ changed_groups l.inst l.before l.now l.r

use Rattle.std.proofs.Common.{◌≡◌, ◌++◌}
use Rattle.page_parts.specs.Groups.{changed_in}
use Rattle.page_parts.proofs.group_changes.push_changed.Given as goal

-- the changed groups so far
abbrev pub invariant-loop-place : goal.invariant-loop-place
invariant-loop-place l = l.out.items ≡ l.initial.out.items ++ changed_in l.inst l.before l.now l.fn.res.0 l.place

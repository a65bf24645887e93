use Rattle.std.proofs.Common.{◌≡◌, ◌+◌}
use Rattle.file_rows.specs.Limits.{most_groups}
use Rattle.build_refusals.specs.Position.{groups_in}
use Rattle.build_refusals.proofs.position.past_limit.Given as goal

-- the groups so far, and those that still fit
abbrev pub invariant-loop-place : goal.invariant-loop-place
invariant-loop-place l = groups_in l.place l.rows + l.left ≡ most_groups

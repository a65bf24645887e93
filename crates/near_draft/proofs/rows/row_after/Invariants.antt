use Rattle.std.proofs.Common.{◌≡◌, ◌≤◌, length, take}
use Rattle.desk_data.specs.PlanRows.{row_at}
use Rattle.near_draft.specs.Drafts.{drafted}
use Rattle.near_draft.proofs.rows.row_after.Given as goal

-- the changes from this one on are of other legs
abbrev pub invariant-loop-place : goal.invariant-loop-place
invariant-loop-place l = record {
  within : l.place ≤ length l.changes;
  row : row_at (drafted l.base.rows (take l.place l.changes)) l.leg.0 ≡ row_at (drafted l.base.rows l.changes) l.leg.0;
}

abbrev pub decreases-loop-place : goal.decreases-loop-place
decreases-loop-place l = l.place

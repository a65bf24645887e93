use Rattle.std.proofs.Common.{◌≡◌, ◌-◌, take}
use Rattle.std.specs.Prelude.{sum_by}
use Rattle.desk_data.specs.PlanRows.{groups_at}
use Rattle.near_draft.specs.Drafts.{plan_of}
use Rattle.near_priced.specs.Saved.{least_of}
use Rattle.near_priced.proofs.saved.beyond_least.Given as goal

-- what is left beyond the groups so far
abbrev pub invariant-loop-group : goal.invariant-loop-group
invariant-loop-group l = l.left ≡ l.cost - sum_by (least_of l.inst (plan_of l.draft) l.res.0) (take l.group-index (groups_at (plan_of l.draft) l.res.0))

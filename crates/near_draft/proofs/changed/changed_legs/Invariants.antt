use Rattle.std.proofs.Common.{◌≡◌, ℕ, ◌<◌, ◌⊎◌, get_or}
use Rattle.std.specs.List.{All, Contains}
use Rattle.desk_data.specs.Situation.{legs_of}
use Rattle.desk_data.specs.PlanRows.{row_at}
use Rattle.near_draft.specs.Drafts.{plan_of}
use Rattle.near_draft.specs.Legs.{numbers_of}
use Rattle.near_draft.proofs.ChangeLaws.{no_change}
use Rattle.near_draft.proofs.changed.changed_legs.Given as goal

-- the legs of the changes so far
abbrev pub invariant-loop-change : goal.invariant-loop-change
invariant-loop-change l = record {
  noted : (j : ℕ) → j < l.change-index → (row_at l.draft.rows (get_or l.draft.changes j no_change).leg.0 ≡ row_at (plan_of l.draft) (get_or l.draft.changes j no_change).leg.0) ⊎ Contains (numbers_of l.legs.items) (get_or l.draft.changes j no_change).leg.0;
  within : All (λ leg. leg.0 < legs_of l.draft.inst) l.legs.items;
}

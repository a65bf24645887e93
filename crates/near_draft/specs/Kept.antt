-- The legs of aircraft that are kept beside a plan.
use Rattle.std.specs.Prelude.{◌≡◌, ◌%◌, Bool, true, false, List, length, slice_index_or}
use Rattle.std.specs.List.{All}
use Rattle.desk_data.specs.Situation.{Situation}
use Rattle.desk_data.specs.PlanRows.{PlanRows}
use Rattle.near_draft.specs.declared.change.Change.{Change}
use Rattle.near_draft.specs.declared.kept.PlaneLegs.{PlaneLegs}
use Rattle.near_draft.specs.Drafts.{AreChanges, drafted}
use Rattle.near_draft.specs.Legs.{AreLegsOf, numbers_of}

-- each list is of the legs that its aircraft flies in plan P
abbrev pub AreKept : Situation → PlanRows → List PlaneLegs → Type 0
AreKept I P lists = All (λ (list : PlaneLegs). AreLegsOf I P list.plane.0 (numbers_of list.legs.items)) lists

-- the leg of each change has a mark
pub record AreMarked (changes : List Change) (marks : List Bool) : Type 0 where
  pub many : length marks ≡ 64
  pub marked : All (λ (change : Change). slice_index_or marks (change.leg.0 % 64) false ≡ true) changes

-- changes of plan P, their marks, and lists of the plan that they make
pub record AreDrafted (I : Situation) (P : PlanRows) (changes : List Change) (marks : List Bool) (lists : List PlaneLegs) : Type 0 where
  pub marked : AreMarked changes marks
  pub are : AreChanges I P changes
  pub kept : AreKept I (drafted P changes) lists

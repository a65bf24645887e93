-- Rows that are drafted over a plan, which stays as it is.
use Rattle.std.specs.Prelude.{◌≡◌, ℕ, ◌<◌, ◌⊎◌, true, List, [], ◌∷◌, ◌++◌, fold}
use Rattle.std.specs.List.{Contains, list_all}
use Rattle.desk_data.specs.Situation.{Situation, legs_of, planes_of}
use Rattle.desk_data.specs.PlanRows.{PlanRows, row_at, with_row}
use Rattle.desk_data.specs.Valid.{IsRowOf}
use Rattle.plan_moves.specs.declared.moves.Move.{Move}
use Rattle.plan_moves.specs.declared.moves.Step.{Step}
use Rattle.desk_model.specs.Steps.{after_steps}
use Rattle.near_moves.specs.RowRules.{keeps_rows}
use Rattle.near_draft.specs.declared.change.Change.{Change}

-- plan P with another row of one leg, and after some changes, one after another
abbrev pub changed : PlanRows → Change → PlanRows
changed P change = with_row P change.leg.0 change.row

abbrev pub drafted : PlanRows → List Change → PlanRows
drafted P changes = fold changed P changes

-- a leg of the day gets a row for the day, and the change names the row that it had
pub record IsChange (I : Situation) (P : PlanRows) (change : Change) : Type 0 where
  pub leg : change.leg.0 < legs_of I
  pub row : IsRowOf (planes_of I) change.row
  pub was : change.was ≡ row_at P change.leg.0

-- each change is one of the plan that those before it made
abbrev pub AreChanges : Situation → PlanRows → List Change → Type 0
AreChanges I P [] = Unit {0}
AreChanges I P (change ∷ changes) = IsChange I P change × AreChanges I (changed P change) changes

-- what a draft is seen as: the day, the plan over which it is drafted, and the changes
pub record Drafted : Type 0 where
  pub inst : Situation
  pub rows : PlanRows
  pub changes : List Change

-- the plan that is drafted
abbrev pub plan_of : Drafted → PlanRows
plan_of D = drafted D.rows D.changes

-- the first steps of a move make the plan that is drafted over plan P, and the others leave each leg its row
pub record IsDraftOf (I : Situation) (P : PlanRows) (m : Move) (D : Drafted) : Type 0 where
  pub day : D.inst ≡ I
  pub plan : D.rows ≡ P
  pub first : List Step
  pub others : List Step
  pub steps : m.steps ≡ first ++ others
  pub keeps : list_all keeps_rows others ≡ true
  pub made : plan_of D ≡ after_steps I P first

-- each leg has the same row in two plans, or is one of some legs
abbrev pub AreAllChanged : PlanRows → PlanRows → List ℕ → Type 0
AreAllChanged P Q legs = (x : ℕ) → (row_at P x ≡ row_at Q x) ⊎ Contains legs x

-- Legs that are dropped together, in words.
use Rattle.std.specs.Prelude.{◌≡◌, ℕ, ◌-◌, ◌<◌, ◌≤◌, ◌⊎◌, Some, None, List, [], ◌∷◌, ◌++◌, map, slice_get}
use Rattle.desk_data.specs.declared.row.Row.TheVariants.{Cancelled}
use Rattle.desk_data.specs.Situation.{Situation, legs_of, leg_at}
use Rattle.desk_data.specs.PlanRows.{PlanRows, row_at}
use Rattle.plan_moves.specs.declared.moves.Step.{Step}
use Rattle.plan_moves.specs.declared.moves.Step.TheVariants.{Set, Push, Tidy}
use Rattle.desk_rules.specs.Words.{Precedes}
use Rattle.near_moves.specs.MoveParts.{leg, plane, flier, run}
use Rattle.near_moves.specs.Words.{IsRun}

-- no leg of its aircraft comes after leg y
abbrev pub IsLastLeg : Situation → PlanRows → ℕ → Type 0
IsLastLeg I P y = (z : ℕ) → z < legs_of I → Precedes P y z → ⊥

-- k legs, 1 to 4, from leg x on are a run, and the last of them arrives where leg x leaves, or is the last leg of its aircraft
pub record DropsRun (I : Situation) (P : PlanRows) (x k : ℕ) : Type 0 where
  pub some : 1 ≤ k
  pub most : k ≤ 4
  pub movable : IsRun I P x k
  pub last : ℕ
  pub place : slice_get (run I P x k) (k - 1) ≡ Some last
  pub round : ((leg_at I last).dest.0 ≡ (leg_at I x).origin.0) ⊎ IsLastLeg I P last

-- such legs are cancelled in their order, the movable legs of the aircraft that flew them are pushed, and then a Tidy
pub record IsDropping (I : Situation) (P : PlanRows) (x : ℕ) (steps : List Step) : Type 0 where
  pub legs : ℕ
  pub drops : DropsRun I P x legs
  pub all : steps ≡ map (λ y. Set (leg y) (row_at P y) Cancelled) (run I P x legs) ++ Push (plane (flier (row_at P x))) None ∷ Tidy ∷ []

-- A walk: a plan that changes place by place, the plans before its changes, and a board of it.
use Rattle.std.specs.Prelude.{◌≡◌, ℕ, ◌≤◌, List, length, reverse}
use Rattle.std.specs.List.{All}
use Rattle.desk_data.specs.Situation.{Situation}
use Rattle.desk_data.specs.PlanRows.{PlanRows}
use Rattle.desk_data.specs.Valid.{IsPlanFor}

-- the board is that of plan P, and its past the plans before it, the last of them last; all are plans for the instance. Here is I P Ps
-- board says that a board is that of instance I and plan P, and its past the plans Ps, the last first
pub record IsWalk {B : Type 0} (is : Situation → PlanRows → List PlanRows → B → Type 0) (I : Situation) (board : B) (P : PlanRows) (past : List PlanRows) : Type 0 where
  pub valid : IsPlanFor I P
  pub kept : is I P (reverse past) board
  pub before : All (IsPlanFor I) (reverse past)

-- a board that counts its past by itself
pub record IsCounted (IsBoard : Type 0) (Ps : List PlanRows) (changes : ℕ) : Type 0 where
  pub kept : IsBoard
  pub all : changes ≡ length Ps
  pub few : changes ≤ 2000000000

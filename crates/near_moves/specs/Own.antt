-- Moves that break a rule of a leg of their own aircraft.
use Rattle.std.specs.Prelude.{◌≡◌, ℕ, ◌<◌, Bool, true, false, ◌&&◌}
use Rattle.desk_data.specs.Situation.{Situation, legs_of}
use Rattle.desk_data.specs.PlanRows.{PlanRows, row_at}
use Rattle.plan_moves.specs.declared.moves.Move.{Move}
use Rattle.desk_rules.specs.Rules.{keeps_c2, keeps_c4, keeps_c5, keeps_c6, keeps_c7}
use Rattle.desk_model.specs.Steps.{after_move}
use Rattle.near_moves.specs.Same.{is_of}

-- whether leg x keeps the rules that ask rows of its aircraft alone: C2 and C4 to C7
abbrev pub keeps_own_rules : Situation → PlanRows → ℕ → Bool
keeps_own_rules I P x = keeps_c5 I P x && keeps_c6 I P x && keeps_c2 I P x && keeps_c4 I P x && keeps_c7 I P x

-- in the plan that a move makes one of some aircraft flies a leg that breaks one of these rules
pub record BreaksOwn (planes : ℕ → Bool) (I : Situation) (P : PlanRows) (m : Move) : Type 0 where
  pub leg : ℕ
  pub within : leg < legs_of I
  pub own : is_of planes (row_at (after_move I P m) leg) ≡ true
  pub broken : keeps_own_rules I (after_move I P m) leg ≡ false

-- What passengers come to cost who are no longer carried.
use Rattle.std.specs.Prelude.{◌≡◌, ℕ, ◌+◌, if◌then◌else◌, List, length, sum_by}
use Rattle.desk_data.specs.declared.row.Group.{Group}
use Rattle.desk_data.specs.Situation.{Situation, legs_of, reservations_of}
use Rattle.desk_data.specs.PlanRows.{PlanRows, groups_at}
use Rattle.desk_rules.specs.Cost.{legal_uncarried}
use Rattle.desk_rules.specs.Numbers.{numbers}
use Rattle.desk_model.specs.Refill.{has_leg}
use Rattle.plan_checks.specs.Amounts.{cancellation_uncarried}
use Rattle.near_priced.specs.Tables.{amount}

-- what so many passengers of reservation r cost who are not carried
abbrev pub uncarried : Situation → ℕ → ℕ → ℕ
uncarried I r count = cancellation_uncarried I r count + legal_uncarried I r count

-- what a group of reservation r comes to cost if those on leg x are no longer carried: nothing where it is not on the leg
abbrev pub owed_by : Situation → ℕ → ℕ → Group → ℕ
owed_by I x r group = if has_leg x group.path then uncarried I r group.count else 0

-- what those of the first n reservations come to cost who are on leg x
abbrev pub owed_first : Situation → PlanRows → ℕ → ℕ → ℕ
owed_first I P x n = sum_by (λ r. sum_by (owed_by I x r) (groups_at P r)) (numbers n)

-- what all of them do
abbrev pub owed_on : Situation → PlanRows → ℕ → ℕ
owed_on I P x = owed_first I P x (reservations_of I)

-- by leg what those of the first n reservations come to cost who are on it
pub record AreOwed (I : Situation) (P : PlanRows) (owed : List ℕ) (n : ℕ) : Type 0 where
  pub legs : length owed ≡ legs_of I
  pub each : (x : ℕ) → amount owed x ≡ owed_first I P x n

-- What the legs and the passengers of a plan cost.
use Rattle.std.specs.Prelude.{ℕ, ◌+◌, sum_by}
use Rattle.desk_data.specs.Situation.{Situation, reservations_of}
use Rattle.desk_data.specs.PlanRows.{PlanRows}
use Rattle.desk_rules.specs.Numbers.{numbers}
use Rattle.desk_rules.specs.Cost.{operating_cost}
use Rattle.plan_checks.specs.Amounts.{reservation_cost}

-- what the legs and the passengers of a plan cost: all but its positions
abbrev pub flown_cost : Situation → PlanRows → ℕ
flown_cost I P = operating_cost I P + sum_by (reservation_cost I P) (numbers (reservations_of I))

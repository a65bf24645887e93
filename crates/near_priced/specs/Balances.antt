-- What flying and the positions cost in plan P, before a move, and in plan Q, after its first steps.
use Rattle.std.specs.Prelude.{◌≡◌, ℕ, ◌+◌, ◌≤◌, ◌^◌, ◌&&◌, if◌then◌else◌, Option}
use Rattle.desk_units.specs.declared.numbers.Leg.{Leg}
use Rattle.desk_data.specs.declared.info.PositionInfo.{PositionInfo}
use Rattle.desk_data.specs.Situation.{Situation, plane_at}
use Rattle.desk_data.specs.PlanRows.{PlanRows}
use Rattle.desk_rules.specs.Cost.{is_wanted, operating_cost, position_cost}
use Rattle.plan_checks.specs.Stands.{end_of, is_there}
use Rattle.near_priced.specs.declared.balance.Balance.{Balance}

-- 1 where aircraft p is of the kind that a position wants, and ends there after a leg, else 0
abbrev pub counted : Situation → ℕ → Option Leg → PositionInfo → ℕ
counted I p last position = if is_wanted position (plane_at I p) && is_there (end_of I p last) position.airport.0 then 1 else 0

-- flying costs in both what it does beside some legs, and what these cost
pub record IsFlying (I : Situation) (P Q : PlanRows) (balance : Balance) : Type 0 where
  pub differs : operating_cost I Q + balance.old ≡ operating_cost I P + balance.new
  pub few_new : balance.new ≤ 10 ^ 37
  pub few_old : balance.old ≤ 10 ^ 37

-- what the positions cost in both
pub record ArePositions (I : Situation) (P Q : PlanRows) (balance : Balance) : Type 0 where
  pub is : position_cost I Q ≡ balance.new
  pub was : position_cost I P ≡ balance.old
  pub few_new : balance.new ≤ 10 ^ 37
  pub few_old : balance.old ≤ 10 ^ 37

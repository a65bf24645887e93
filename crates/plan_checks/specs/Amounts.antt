-- What groups of passengers cost.
use Rattle.std.specs.Prelude.{ℕ, ◌+◌, ◌-◌, ◌*◌, ◌<◌, if◌then◌else◌, List, sum_by, Option, None, Some}
use Rattle.std.specs.Option.{ForSome}
use Rattle.desk_units.specs.declared.numbers.Leg.{Leg}
use Rattle.desk_units.specs.declared.numbers.Cabin.{Cabin}
use Rattle.desk_units.specs.declared.numbers.Minute.{Minute}
use Rattle.desk_units.specs.declared.tariff.Term.TheVariants as term
use Rattle.tariff_prices.specs.Prices.{delay_price, cancel_price}
use Rattle.desk_data.specs.declared.row.Group.{Group}
use Rattle.desk_data.specs.Situation.{Situation}
use Rattle.desk_data.specs.PlanRows.{PlanRows, groups_at}
use Rattle.desk_data.specs.Booked.{haul_of, reference_of, booked_arrival}
use Rattle.desk_rules.specs.Passengers.{arrival_of}
use Rattle.desk_data.specs.Paths.{is_carried}
use Rattle.plan_checks.specs.Counted.{group_on}
use Rattle.desk_rules.specs.Cost.{rows_of, weight, by_hour, by_item, arrives, delay, cancellation, downgrade, legal, legal_late, legal_uncarried}

-- the delay of so many passengers of reservation r who arrive so many minutes late
abbrev pub delay_late : Situation → ℕ → ℕ → ℕ → ℕ
delay_late I r minutes count = by_hour (weight I term.Delay) (delay_price (rows_of I) (haul_of I r) (reference_of I r)) (count * minutes)

-- the cancellation of so many passengers of reservation r
abbrev pub cancellation_uncarried : Situation → ℕ → ℕ → ℕ
cancellation_uncarried I r count = by_item (weight I term.Cancellation) (cancel_price (rows_of I) (haul_of I r) (reference_of I r)) count

-- the four terms of a group, and of all groups of reservation r
unfoldable pub group_cost : Situation → PlanRows → ℕ → Group → ℕ
group_cost I P r group = delay I P r group + cancellation I r group + downgrade I r group + legal I P r group

unfoldable pub reservation_cost : Situation → PlanRows → ℕ → ℕ
reservation_cost I P r = sum_by (group_cost I P r) (groups_at P r)

-- one passenger of reservation r on a path
abbrev pub passenger_cost : Situation → PlanRows → ℕ → List (Leg × Cabin) → ℕ
passenger_cost I P r path = group_cost I P r (group_on path 1)

-- ---- by the end of a path

-- when passengers arrive on a path, if they do
unfoldable pub path_end : Situation → PlanRows → List (Leg × Cabin) → Option Minute
path_end I P path = if arrives P path then Some (record { 0 = arrival_of I P path }) else None

-- a moment at which a path can arrive
abbrev pub IsEnd : Option Minute → Type 0
IsEnd end = ForSome end (λ at. at.0 < 52502880)

-- what it costs that so many passengers of reservation r arrive at a moment, if they do
abbrev pub arriving : Situation → ℕ → ℕ → Option Minute → ℕ
arriving I r count None = 0
arriving I r count (Some at) = delay_late I r (at.0 - booked_arrival I r) count + legal_late I r (at.0 - booked_arrival I r) count

-- what a group of reservation r costs whose path ends so: this is all that hangs on the rows of a plan
unfoldable pub path_cost : Situation → ℕ → Group → Option Minute → ℕ
path_cost I r group end =
    if is_carried group.path then downgrade I r group + arriving I r group.count end
    else cancellation_uncarried I r group.count + legal_uncarried I r group.count

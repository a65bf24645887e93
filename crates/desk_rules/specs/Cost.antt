-- What a plan costs, in grains: 600,000,000 to one unit of money. Prices are in ten-thousandths, weights in thousandths.
use Rattle.std.specs.Prelude.{ℕ, ◌+◌, ◌-◌, ◌*◌, Bool, ◌&&◌, not, nat_lt, ◌==◌, bytes_eq, if◌then◌else◌, List, filter, length, sum_by}
use Rattle.desk_units.specs.declared.numbers.Leg.{Leg}
use Rattle.desk_units.specs.declared.numbers.Cabin.{Cabin}
use Rattle.desk_units.specs.declared.numbers.Seats.{Seats}
use Rattle.desk_units.specs.declared.money.Grains.{Grains}
use Rattle.desk_units.specs.declared.tariff.TariffRow.{TariffRow}
use Rattle.desk_units.specs.declared.tariff.Term.{Term}
use Rattle.desk_units.specs.declared.tariff.Term.TheVariants as term
use Rattle.desk_units.specs.Ranks.{cabin_rank}
use Rattle.tariff_prices.specs.Prices.{weight_of, delay_price, cancel_price, downgrade_price, position_price, uncarried_care, uncarried_compensation, care_price, compensation_price}
use Rattle.desk_data.specs.declared.info.PlaneInfo.{PlaneInfo}
use Rattle.desk_data.specs.declared.info.PositionInfo.{PositionInfo}
use Rattle.desk_data.specs.declared.row.Row.{Row}
use Rattle.desk_data.specs.declared.row.Row.TheVariants.{Flown, Cancelled}
use Rattle.desk_data.specs.declared.row.Group.{Group}
use Rattle.desk_data.specs.Situation.{Situation, legs_of, planes_of, reservations_of, leg_at, plane_at, res_at}
use Rattle.desk_data.specs.PlanRows.{PlanRows, row_at, groups_at}
use Rattle.desk_rules.specs.Numbers.{numbers}
use Rattle.desk_rules.specs.Maintenance.{is_left_at}
use Rattle.desk_data.specs.Booked.{haul_of, reference_of}
use Rattle.desk_rules.specs.Passengers.{all_flown, minutes_late}
use Rattle.desk_data.specs.Paths.{is_carried}

-- a sum of money
abbrev pub grains : ℕ → Grains
grains n = record { 0 = n }

-- the rows of the tariff, and the weight of a term
abbrev pub rows_of : Situation → List TariffRow
rows_of I = I.parts.tariff.rows

abbrev pub weight : Situation → Term → ℕ
weight I term = weight_of (rows_of I) term

-- a price for an hour counts for each minute, a price for an item for each item
abbrev pub by_hour : ℕ → ℕ → ℕ → ℕ
by_hour weight price minutes = weight * price * minutes

abbrev pub by_item : ℕ → ℕ → ℕ → ℕ
by_item weight price items = 60 * weight * price * items

-- ---- operating: the block minutes of each flown leg, at the hourly cost of the aircraft that flies it

abbrev pub operating_of : Situation → ℕ → Row → ℕ
operating_of I x (Flown plane dep) = by_hour (weight I term.Operating) (plane_at I plane.0).hourly.0 (leg_at I x).block
operating_of I x Cancelled = 0

abbrev pub operating : Situation → PlanRows → ℕ → ℕ
operating I P x = operating_of I x (row_at P x)

unfoldable pub operating_cost : Situation → PlanRows → ℕ
operating_cost I P = sum_by (operating I P) (numbers (legs_of I))

-- a sum over the groups of all reservations
abbrev pub over_groups : Situation → PlanRows → (ℕ → Group → ℕ) → ℕ
over_groups I P amount = sum_by (λ r. sum_by (amount r) (groups_at P r)) (numbers (reservations_of I))

-- ---- delay: the minutes by which each passenger arrives late, at the hourly price of the reservation's haul and cabin

-- whether passengers arrive: they are carried, and no leg of their path is cancelled
abbrev pub arrives : PlanRows → List (Leg × Cabin) → Bool
arrives P path = is_carried path && all_flown P path

unfoldable pub delay : Situation → PlanRows → ℕ → Group → ℕ
delay I P r group =
    if arrives P group.path
    then by_hour (weight I term.Delay) (delay_price (rows_of I) (haul_of I r) (reference_of I r)) (group.count * minutes_late I P r group.path)
    else 0

unfoldable pub delay_cost : Situation → PlanRows → ℕ
delay_cost I P = over_groups I P (delay I P)

-- ---- cancellation: each passenger who is not carried

unfoldable pub cancellation : Situation → ℕ → Group → ℕ
cancellation I r group =
    if is_carried group.path then 0
    else by_item (weight I term.Cancellation) (cancel_price (rows_of I) (haul_of I r) (reference_of I r)) group.count

unfoldable pub cancellation_cost : Situation → PlanRows → ℕ
cancellation_cost I P = over_groups I P (cancellation I)

-- ---- downgrade: each passenger and leg in a cabin below the highest that the reservation booked

unfoldable pub downgrade_on : Situation → ℕ → ℕ → Leg × Cabin → ℕ
downgrade_on I r count pair =
    if nat_lt (cabin_rank (reference_of I r)) (cabin_rank pair.1)
    then by_item (weight I term.Downgrade) (downgrade_price (rows_of I) (leg_at I pair.0.0).haul (reference_of I r) pair.1) count
    else 0

abbrev pub downgrade : Situation → ℕ → Group → ℕ
downgrade I r group = sum_by (downgrade_on I r group.count) group.path

unfoldable pub downgrade_cost : Situation → PlanRows → ℕ
downgrade_cost I P = over_groups I P (downgrade I)

-- ---- legal: care and compensation for those who arrive late; for those who are not carried the price that they paid, with care and compensation

-- what is owed to passengers who are not carried
abbrev pub legal_uncarried : Situation → ℕ → ℕ → ℕ
legal_uncarried I r count =
    by_item (weight I term.Legal) (res_at I r).price.0 count
    + by_item (weight I term.Legal) (uncarried_care (rows_of I) (haul_of I r)) count
    + by_item (weight I term.Legal) (uncarried_compensation (rows_of I) (haul_of I r)) count

-- what is owed to passengers who arrive so many minutes late
abbrev pub legal_late : Situation → ℕ → ℕ → ℕ → ℕ
legal_late I r minutes count =
    by_item (weight I term.Legal) (care_price (rows_of I) (haul_of I r) minutes) count
    + by_item (weight I term.Legal) (compensation_price (rows_of I) (haul_of I r) minutes) count

unfoldable pub legal : Situation → PlanRows → ℕ → Group → ℕ
legal I P r group =
    if arrives P group.path then legal_late I r (minutes_late I P r group.path) group.count
    else (if is_carried group.path then 0 else legal_uncarried I r group.count)

unfoldable pub legal_cost : Situation → PlanRows → ℕ
legal_cost I P = over_groups I P (legal I P)

-- ---- position: each aircraft of a model and seats that an airport should have at the window's end, and has not

-- whether an aircraft has the model and the seats of a position
abbrev pub same_seats : Seats → Seats → Bool
same_seats a b = (a.f == b.f) && ((a.b == b.b) && (a.e == b.e))

abbrev pub is_wanted : PositionInfo → PlaneInfo → Bool
is_wanted position plane = bytes_eq position.model plane.model && same_seats position.seats plane.seats

-- whether aircraft p ends at an airport: its last leg that departs before the window's end arrived there, or it began there if there is none. Surface transport ends nowhere
abbrev pub ends_at : Situation → PlanRows → ℕ → ℕ → Bool
ends_at I P p airport = not (plane_at I p).surface && is_left_at I P p I.parts.to.0 airport

-- how many of the wanted aircraft end at the airport
abbrev pub at_hand : Situation → PlanRows → PositionInfo → ℕ
at_hand I P position = length (filter (λ p. is_wanted position (plane_at I p) && ends_at I P p position.airport.0) (numbers (planes_of I)))

unfoldable pub missing_aircraft : Situation → PlanRows → PositionInfo → ℕ
missing_aircraft I P position = by_item (weight I term.Position) (position_price (rows_of I)) (position.count - at_hand I P position)

unfoldable pub position_cost : Situation → PlanRows → ℕ
position_cost I P = sum_by (missing_aircraft I P) I.parts.positions

-- ---- all six

unfoldable pub cost : Situation → PlanRows → ℕ
cost I P = operating_cost I P + delay_cost I P + cancellation_cost I P + downgrade_cost I P + legal_cost I P + position_cost I P

-- How many departures and arrivals an airport takes in an hour. Hour h is the minutes from 60h to 60h + 59.
use Rattle.std.specs.Prelude.{ℕ, ◌+◌, ◌*◌, ◌%◌, ◌/◌, max, Bool, false, not, ◌&&◌, ◌||◌, nat_lt, nat_le, ◌==◌, if◌then◌else◌, Option, Some, None, count_by}
use Rattle.std.specs.Option.{option_or, option_map}
use Rattle.day_orders.specs.declared.hours.HourCap.{HourCap}
use Rattle.day_orders.specs.LastOrders.{last_word, order_on_hour}
use Rattle.desk_data.specs.declared.info.Cap.{Cap}
use Rattle.desk_data.specs.declared.info.LegInfo.{LegInfo}
use Rattle.desk_data.specs.declared.row.Row.{Row}
use Rattle.desk_data.specs.declared.row.Row.TheVariants.{Flown, Cancelled}
use Rattle.desk_data.specs.Situation.{Situation, airport_at, plane_at, legs_frozen}

-- the minute of the day at which a group ends: 00:00 is the day's end, as 24:00 is
abbrev pub end_of : Cap → ℕ
end_of group = if group.to == 0 then 1440 else group.to

-- whether a group covers a minute of the day. One that does not end later than it begins covers the rest of the day, and the next day's part up to its end
unfoldable pub covers : Cap → ℕ → Bool
covers group minute =
    if nat_lt group.from (end_of group)
    then (nat_le group.from minute && nat_lt minute (end_of group))
    else (nat_le group.from minute || nat_lt minute (end_of group))

-- what a group says of the hour that begins at a minute of the day
abbrev pub cap_on_minute : ℕ → Cap → Option HourCap
cap_on_minute minute group = if covers group minute then Some (record { deps = group.deps; arrs = group.arrs }) else None

-- the last order that has a minute in hour h decides for airport a. Where there is none, the last group of the airport's line does that covers the hour of the day
unfoldable pub hour_cap : Situation → ℕ → ℕ → Option HourCap
hour_cap I a h = option_or (last_word (order_on_hour a h) I.orders) (last_word (cap_on_minute (60 * (h % 24))) (airport_at I a).caps)

-- whether a row departs from airport a in hour h, or arrives there then, with an aircraft that is no surface transport
abbrev pub departs_by : Situation → ℕ → ℕ → LegInfo → Row → Bool
departs_by I a h leg (Flown plane dep) = not (plane_at I plane.0).surface && ((leg.origin.0 == a) && (dep.0 / 60 == h))
departs_by I a h leg Cancelled = false

abbrev pub arrives_by : Situation → ℕ → ℕ → LegInfo → Row → Bool
arrives_by I a h leg (Flown plane dep) = not (plane_at I plane.0).surface && ((leg.dest.0 == a) && ((dep.0 + leg.block) / 60 == h))
arrives_by I a h leg Cancelled = false

abbrev pub is_row_that : (Row → Bool) → Option Row → Bool
is_row_that test None = false
is_row_that test (Some row) = test row

-- how many frozen rows depart from airport a in hour h, and how many arrive there then
abbrev pub frozen_departures : Situation → ℕ → ℕ → ℕ
frozen_departures I a h = count_by (λ pair. is_row_that (departs_by I a h pair.0) pair.1) (legs_frozen I)

abbrev pub frozen_arrivals : Situation → ℕ → ℕ → ℕ
frozen_arrivals I a h = count_by (λ pair. is_row_that (arrives_by I a h pair.0) pair.1) (legs_frozen I)

-- how many departures and how many arrivals airport a takes in hour h, never fewer than are frozen; None where it takes any number
unfoldable pub dep_cap : Situation → ℕ → ℕ → Option ℕ
dep_cap I a h = option_map (λ cap. max cap.deps (frozen_departures I a h)) (hour_cap I a h)

unfoldable pub arr_cap : Situation → ℕ → ℕ → Option ℕ
arr_cap I a h = option_map (λ cap. max cap.arrs (frozen_arrivals I a h)) (hour_cap I a h)

-- The rules of an airport's hours as tests, C10 and C11.
use Rattle.std.specs.Prelude.{ℕ, ◌/◌, Bool, true, false, ◌&&◌, not, nat_le, ◌==◌, filter, length, Option, Some, None}
use Rattle.desk_data.specs.declared.row.Row.{Row}
use Rattle.desk_data.specs.declared.row.Row.TheVariants.{Flown, Cancelled}
use Rattle.desk_data.specs.Situation.{Situation, legs_of, leg_at, plane_at}
use Rattle.desk_data.specs.Hours.{dep_cap, arr_cap}
use Rattle.desk_data.specs.PlanRows.{PlanRows, row_at}
use Rattle.desk_rules.specs.Numbers.{numbers}
use Rattle.desk_rules.specs.Rotations.{dep, arr}

-- whether an aircraft that is no surface transport flies a row
abbrev pub is_in_the_air : Situation → Row → Bool
is_in_the_air I (Flown plane dep) = not (plane_at I plane.0).surface
is_in_the_air I Cancelled = false

-- the hour of a moment
abbrev pub hour_of : ℕ → ℕ
hour_of at = at / 60

-- whether leg x departs from airport a in hour h, and whether it arrives there then
abbrev pub departs_in : Situation → PlanRows → ℕ → ℕ → ℕ → Bool
departs_in I P a h x = is_in_the_air I (row_at P x) && (((leg_at I x).origin.0 == a) && (hour_of (dep P x) == h))

abbrev pub arrives_in : Situation → PlanRows → ℕ → ℕ → ℕ → Bool
arrives_in I P a h x = is_in_the_air I (row_at P x) && (((leg_at I x).dest.0 == a) && (hour_of (arr I P x) == h))

-- how many legs do
abbrev pub departures : Situation → PlanRows → ℕ → ℕ → ℕ
departures I P a h = length (filter (departs_in I P a h) (numbers (legs_of I)))

abbrev pub arrivals : Situation → PlanRows → ℕ → ℕ → ℕ
arrivals I P a h = length (filter (arrives_in I P a h) (numbers (legs_of I)))

-- at most the cap, where there is one
abbrev pub is_within : ℕ → Option ℕ → Bool
is_within count None = true
is_within count (Some cap) = nat_le count cap

-- C10 and C11: the departures from an airport in an hour, and the arrivals there, are at most its caps
unfoldable pub keeps_c10 : Situation → PlanRows → ℕ → ℕ → Bool
keeps_c10 I P a h = is_within (departures I P a h) (dep_cap I a h)

unfoldable pub keeps_c11 : Situation → PlanRows → ℕ → ℕ → Bool
keeps_c11 I P a h = is_within (arrivals I P a h) (arr_cap I a h)

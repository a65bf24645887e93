-- The rules of passengers as tests, C12 to C15.
use Rattle.std.specs.Prelude.{ℕ, ◌+◌, Bool, true, ◌&&◌, nat_le, ◌==◌, List}
use Rattle.std.specs.List.{list_all}
use Rattle.desk_units.specs.declared.numbers.Leg.{Leg}
use Rattle.desk_units.specs.declared.numbers.Cabin.{Cabin}
use Rattle.desk_data.specs.declared.row.Row.{Row}
use Rattle.desk_data.specs.declared.row.Row.TheVariants.{Flown, Cancelled}
use Rattle.desk_data.specs.Situation.{Situation, leg_at, plane_at, bound}
use Rattle.desk_data.specs.PlanRows.{PlanRows, row_at, groups_at}
use Rattle.desk_rules.specs.Rotations.{dep}
use Rattle.desk_rules.specs.Numbers.{implies}
use Rattle.desk_data.specs.Paths.{first_leg, last_leg, is_carried}
use Rattle.desk_data.specs.Booked.{origin_of, dest_of, booked_departure, booked_arrival, haul_of}
use Rattle.desk_rules.specs.Passengers.{aboard, seats_in, all_flown, connects, arrival_of, longest_delay}

-- C12: the passengers of a flown leg in a cabin have seats
abbrev pub has_seats : Situation → PlanRows → ℕ → Cabin → Row → Bool
has_seats I P x c (Flown plane dep) = nat_le (aboard P x c) (seats_in (plane_at I plane.0).seats c)
has_seats I P x c Cancelled = true

unfoldable pub keeps_c12 : Situation → PlanRows → ℕ → Cabin → Bool
keeps_c12 I P x c = has_seats I P x c (row_at P x)

-- the test holds of each path on which passengers of reservation r are carried
abbrev pub each_carried : PlanRows → ℕ → (List (Leg × Cabin) → Bool) → Bool
each_carried P r test = list_all (λ group. implies (is_carried group.path) (test group.path)) (groups_at P r)

-- C13: a carried path is flown, runs from the reservation's origin to its destination, connects, and leaves no earlier than booked
unfoldable pub is_good_path : Situation → PlanRows → ℕ → List (Leg × Cabin) → Bool
is_good_path I P r path =
    all_flown P path
    && ((leg_at I (first_leg path)).origin.0 == origin_of I r)
    && ((leg_at I (last_leg path)).dest.0 == dest_of I r)
    && connects I P path
    && nat_le (booked_departure I r) (dep P (first_leg path))

unfoldable pub keeps_c13 : Situation → PlanRows → ℕ → Bool
keeps_c13 I P r = each_carried P r (is_good_path I P r)

-- C14: a carried path whose legs are all flown arrives no later than the longest delay after the booked arrival
unfoldable pub is_in_time_path : Situation → PlanRows → ℕ → List (Leg × Cabin) → Bool
is_in_time_path I P r path = implies (all_flown P path) (nat_le (arrival_of I P path) (booked_arrival I r + longest_delay (haul_of I r)))

unfoldable pub keeps_c14 : Situation → PlanRows → ℕ → Bool
keeps_c14 I P r = each_carried P r (is_in_time_path I P r)

-- C15: a carried path is bound to what has begun and to what has left, beside the groups of its reservation
unfoldable pub keeps_c15 : Situation → PlanRows → ℕ → Bool
keeps_c15 I P r = each_carried P r (bound I r (groups_at P r))

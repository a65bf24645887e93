-- How many groups of a reservation break a rule, and what a path is judged by: the rows of its legs.
use Rattle.std.specs.Prelude.{ℕ, ◌+◌, ◌-◌, ◌<◌, ◌^◌, Bool, ◌&&◌, not, nat_le, ◌==◌, if◌then◌else◌, cond, min, List, map, length, count_by, slice_index_or}
use Rattle.std.specs.List.{list_all}
use Rattle.desk_units.specs.declared.numbers.Leg.{Leg}
use Rattle.desk_units.specs.declared.numbers.Cabin.{Cabin}
use Rattle.desk_data.specs.declared.row.Row.{Row}
use Rattle.desk_data.specs.declared.row.Row.TheVariants.{Cancelled}
use Rattle.desk_data.specs.declared.row.Group.{Group}
use Rattle.desk_data.specs.Situation.{Situation, leg_at, bound}
use Rattle.desk_data.specs.PlanRows.{PlanRows, row_at, groups_at}
use Rattle.desk_data.specs.Paths.{leg_in, first_leg, last_leg, is_carried}
use Rattle.desk_data.specs.Booked.{origin_of, dest_of, booked_departure, booked_arrival, haul_of}
use Rattle.desk_rules.specs.Numbers.{each_below, implies}
use Rattle.desk_rules.specs.Rotations.{departure}
use Rattle.desk_rules.specs.Passengers.{is_flown, longest_delay}
use Rattle.desk_rules.specs.Carriage.{is_good_path, is_in_time_path}
use Rattle.plan_reads.specs.Connection.{goes_on}
use Rattle.board_kit.specs.Users.{has_leg}
use Rattle.board_seats.specs.declared.faults.PathFaults.{PathFaults}
use Rattle.board_seats.specs.declared.judge.PathVerdict.{PathVerdict}

-- ---- faults

-- one where a test holds
abbrev pub one_if : Bool → ℕ
one_if b = cond b 1 0

-- whether a group of reservation r is carried on a path that breaks C13 or C14
abbrev pub breaks_c13 : Situation → PlanRows → ℕ → Group → Bool
breaks_c13 I P r group = is_carried group.path && not (is_good_path I P r group.path)

abbrev pub breaks_c14 : Situation → PlanRows → ℕ → Group → Bool
breaks_c14 I P r group = is_carried group.path && not (is_in_time_path I P r group.path)

-- whether a group of reservation r, beside all its groups, is carried on a path that breaks C15. It stands on the day and on these
-- groups alone, so no row of the plan changes it
abbrev pub breaks_c15 : Situation → ℕ → List Group → Group → Bool
breaks_c15 I r all group = is_carried group.path && not (bound I r all group.path)

-- how many of some groups of reservation r break a rule, beside all its groups; and how many of all
abbrev pub faults_among : Situation → PlanRows → ℕ → List Group → List Group → PathFaults
faults_among I P r all groups = record { c13 = count_by (breaks_c13 I P r) groups; c14 = count_by (breaks_c14 I P r) groups; c15 = count_by (breaks_c15 I r all) groups }

abbrev pub faults_of : Situation → PlanRows → ℕ → List Group → PathFaults
faults_of I P r groups = faults_among I P r groups groups

-- how many of those that have leg x break C13 and C14: what a change of the leg's row can change
abbrev pub faults_on : Situation → PlanRows → ℕ → ℕ → List Group → PathFaults
faults_on I P r x groups = record {
  c13 = count_by (λ group. has_leg x group && breaks_c13 I P r group) groups;
  c14 = count_by (λ group. has_leg x group && breaks_c14 I P r group) groups;
  c15 = 0;
}

-- the faults with one more group, where it has leg x
abbrev pub faults_with : Situation → PlanRows → ℕ → ℕ → Group → PathFaults → PathFaults
faults_with I P r x group faults = record {
  c13 = faults.c13 + one_if (has_leg x group && breaks_c13 I P r group);
  c14 = faults.c14 + one_if (has_leg x group && breaks_c14 I P r group);
  c15 = faults.c15;
}

-- the faults of reservation r in a plan
abbrev pub faults_at : Situation → PlanRows → ℕ → PathFaults
faults_at I P r = faults_of I P r (groups_at P r)

abbrev pub no_faults : PathFaults
no_faults = record { c13 = 0; c14 = 0; c15 = 0 }

-- the faults with one more group
abbrev pub more_faults : PathVerdict → Bool → PathFaults → PathFaults
more_faults verdict c15 faults = record { c13 = faults.c13 + one_if verdict.c13; c14 = faults.c14 + one_if verdict.c14; c15 = faults.c15 + one_if c15 }

-- there is room for one more
pub record AreFew (faults : PathFaults) : Type 0 where
  pub c13 : faults.c13 + 1 < 2 ^ 64
  pub c14 : faults.c14 + 1 < 2 ^ 64
  pub c15 : faults.c15 + 1 < 2 ^ 64

-- so many less, and so many more, up to the greatest number that is kept
abbrev pub moved : ℕ → ℕ → ℕ → ℕ
moved less more n = min (n - less + more) 18446744073709551615

-- the faults where some groups are judged by other rows
abbrev pub moved_faults : PathFaults → PathFaults → PathFaults → PathFaults
moved_faults before after faults = record { c13 = moved before.c13 after.c13 faults.c13; c14 = moved before.c14 after.c14 faults.c14; c15 = faults.c15 }

-- ---- a path by the rows of its legs

-- the row at a place of a path, and the rows of all its legs in a plan
abbrev pub row_in : List Row → ℕ → Row
row_in rows i = slice_index_or rows i Cancelled

abbrev pub rows_of : PlanRows → List (Leg × Cabin) → List Row
rows_of P path = map (λ pair. row_at P pair.0.0) path

-- the rows of a path where leg x has another row
abbrev pub rows_with : ℕ → Row → PlanRows → List (Leg × Cabin) → List Row
rows_with x row P path = map (λ pair. if pair.0.0 == x then row else row_at P pair.0.0) path

-- what C13 and C14 ask of a path
abbrev pub connects_by : Situation → List (Leg × Cabin) → List Row → Bool
connects_by I path rows = each_below (length path - 1) (λ i. goes_on I (leg_in path i) (row_in rows i) (leg_in path (i + 1)) (row_in rows (i + 1)))

abbrev pub runs_as_booked : Situation → ℕ → List (Leg × Cabin) → List Row → Bool
runs_as_booked I r path rows =
    ((leg_at I (first_leg path)).origin.0 == origin_of I r)
    && ((leg_at I (last_leg path)).dest.0 == dest_of I r)
    && connects_by I path rows
    && nat_le (booked_departure I r) (departure (row_in rows 0))

abbrev pub is_good_by : Situation → ℕ → List (Leg × Cabin) → List Row → Bool
is_good_by I r path rows = list_all is_flown rows && runs_as_booked I r path rows

abbrev pub arrives_in_time : Situation → ℕ → List (Leg × Cabin) → List Row → Bool
arrives_in_time I r path rows =
    nat_le (departure (row_in rows (length path - 1)) + (leg_at I (last_leg path)).block) (booked_arrival I r + longest_delay (haul_of I r))

abbrev pub is_in_time_by : Situation → ℕ → List (Leg × Cabin) → List Row → Bool
is_in_time_by I r path rows = implies (list_all is_flown rows) (arrives_in_time I r path rows)

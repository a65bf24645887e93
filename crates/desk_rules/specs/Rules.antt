-- The rules of single legs as tests, C1 to C7. The letters are those of the rules in words.
use Rattle.std.specs.Prelude.{ℕ, ◌+◌, Bool, true, ◌&&◌, ◌||◌, not, nat_lt, nat_le, ◌==◌, bytes_eq, Option, Some, None}
use Rattle.std.specs.List.{list_any}
use Rattle.desk_units.specs.declared.numbers.Minute.{Minute}
use Rattle.desk_data.specs.declared.row.Row.{Row}
use Rattle.desk_data.specs.declared.row.Row.TheVariants.{Flown, Cancelled}
use Rattle.desk_data.specs.Situation.{Situation, legs_of, leg_at, plane_at, fixed, called_off, earliest, latest, due, spans}
use Rattle.desk_data.specs.PlanRows.{PlanRows, row_at}
use Rattle.desk_rules.specs.Numbers.{each_below, implies}
use Rattle.desk_rules.specs.Rotations.{arr, follows, is_first, ground_time}
use Rattle.desk_rules.specs.Rows.{is_row}

-- C1: a fixed leg has the row that is due
abbrev pub c1_due : Option Row → Row → Bool
c1_due None row = true
c1_due (Some asked) row = is_row asked row

unfoldable pub keeps_c1 : Situation → PlanRows → ℕ → Bool
keeps_c1 I P x = c1_due (due I x) (row_at P x)

-- C2: a movable leg that is called off is cancelled; any other that is flown departs from its earliest to its latest departure
abbrev pub departs_in_time : Situation → ℕ → Row → Bool
departs_in_time I x (Flown plane dep) = not (called_off I x) && nat_le (earliest I x) dep.0 && nat_le dep.0 (latest I x)
departs_in_time I x Cancelled = true

unfoldable pub keeps_c2 : Situation → PlanRows → ℕ → Bool
keeps_c2 I P x = fixed I x || departs_in_time I x (row_at P x)

-- C3: a flown leg's aircraft is of the family of its scheduled aircraft
abbrev pub c3_family : Situation → ℕ → Row → Bool
c3_family I x (Flown plane dep) = bytes_eq (plane_at I plane.0).family (plane_at I (leg_at I x).plane.0).family
c3_family I x Cancelled = true

unfoldable pub keeps_c3 : Situation → PlanRows → ℕ → Bool
keeps_c3 I P x = c3_family I x (row_at P x)

-- C4: a flown leg is within its aircraft's range
abbrev pub c4_range : Situation → ℕ → Row → Bool
c4_range I x (Flown plane dep) = nat_le (leg_at I x).distance (plane_at I plane.0).range
c4_range I x Cancelled = true

unfoldable pub keeps_c4 : Situation → PlanRows → ℕ → Bool
keeps_c4 I P x = c4_range I x (row_at P x)

-- C5: the first leg of an aircraft leaves its origin; each other leaves where the leg before it arrived
abbrev pub c5_location : Situation → PlanRows → ℕ → Row → Bool
c5_location I P y (Flown plane dep) =
    (plane_at I plane.0).surface
    || (implies (is_first I P y) ((leg_at I y).origin.0 == (plane_at I plane.0).origin.0)
    && each_below (legs_of I) (λ x. implies (follows I P x y) ((leg_at I y).origin.0 == (leg_at I x).dest.0)))
c5_location I P y Cancelled = true

unfoldable pub keeps_c5 : Situation → PlanRows → ℕ → Bool
keeps_c5 I P y = c5_location I P y (row_at P y)

-- C6: a leg departs no earlier than the leg before it arrived and the ground time is over
abbrev pub c6_ground_time : Situation → PlanRows → ℕ → Row → Bool
c6_ground_time I P y (Flown plane dep) =
    (plane_at I plane.0).surface
    || each_below (legs_of I) (λ x. implies (follows I P x y) (nat_le (arr I P x + ground_time I plane.0 x y) dep.0))
c6_ground_time I P y Cancelled = true

unfoldable pub keeps_c6 : Situation → PlanRows → ℕ → Bool
keeps_c6 I P y = c6_ground_time I P y (row_at P y)

-- whether a leg from one moment to another meets a span: it departs before the span's end, and the span starts before it arrives
abbrev pub meets_span : ℕ → ℕ → Minute → Minute → Bool
meets_span departs arrives from to = nat_lt departs to.0 && nat_lt from.0 arrives

-- C7: no leg meets a span in which its aircraft is out of service
abbrev pub c7_service : Situation → ℕ → Row → Bool
c7_service I x (Flown plane dep) =
    (plane_at I plane.0).surface
    || not (list_any (λ span. meets_span dep.0 (dep.0 + (leg_at I x).block) span.0 span.1) (spans I plane.0))
c7_service I x Cancelled = true

unfoldable pub keeps_c7 : Situation → PlanRows → ℕ → Bool
keeps_c7 I P x = c7_service I x (row_at P x)

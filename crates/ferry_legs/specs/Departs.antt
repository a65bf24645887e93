-- When one more added leg may depart, beside a list with which nothing is broken.
use Rattle.std.specs.Prelude.{◌≡◌, ℕ, ◌+◌, ◌<◌, ◌≤◌, Bool, true, false, ◌&&◌, ◌||◌, not, nat_lt, nat_le, if◌then◌else◌, List, Option, Some, None, min}
use Rattle.std.specs.List.{list_any}
use Rattle.desk_units.specs.declared.numbers.Airport.{Airport}
use Rattle.desk_units.specs.declared.numbers.Minute.{Minute}
use Rattle.desk_data.specs.declared.info.Maint.{Maint}
use Rattle.desk_data.specs.Situation.{Situation, planes_of, airports_of, plane_at, spans}
use Rattle.desk_data.specs.PlanRows.{PlanRows}
use Rattle.desk_rules.specs.Rules.{meets_span}
use Rattle.desk_rules.specs.Maintenance.{is_free_for, is_left_at, minutes_before}
use Rattle.desk_rules.specs.Slots.{hour_of, departures, arrivals}
use Rattle.desk_rules.specs.Least.{all_hours}
use Rattle.hour_counts.specs.declared.slot.Movement.{Movement}
use Rattle.hour_counts.specs.declared.slot.Movement.TheVariants.{Departure, Arrival}
use Rattle.hour_counts.specs.Slots.{cap}
use Rattle.added_legs.specs.declared.added.Added.{Added}
use Rattle.added_legs.specs.Merged.{plane_end, minutes_to, merged_day, merged_plan}
use Rattle.added_legs.specs.Ferried.{ready}
use Rattle.ferry_legs.specs.declared.way.Way.{Way}

-- the way of an added leg of aircraft p to an airport
abbrev pub way_of : Situation → PlanRows → ℕ → Airport → Way
way_of I P p dest = record { plane = record { 0 = p }; origin = plane_end I P p; dest = dest; minutes = minutes_to I P p dest }

-- a way that there can be
pub record IsWay (I : Situation) (way : Way) : Type 0 where
  pub aircraft : way.plane.0 < planes_of I
  pub leaves : way.origin.0 < airports_of I
  pub arrives : way.dest.0 < airports_of I
  pub short : way.minutes ≤ 100000

-- ---- the aircraft: a leg that departs at a moment meets no span out of service

abbrev pub is_in_service : Situation → Way → ℕ → Bool
is_in_service I way at = not (list_any (λ span. meets_span at (at + way.minutes) span.0 span.1) (spans I way.plane.0))

-- whether an aircraft is free for a maintenance, and was left at its airport
abbrev pub serves : Situation → PlanRows → ℕ → Maint → Bool
serves I P p maint = is_free_for I P p maint && is_left_at I P p maint.from.0 maint.airport.0

-- before its maintenance the aircraft may fly so many minutes more; from its start on it makes it, and the leg does not meet it
abbrev pub keeps_maint : Situation → PlanRows → Way → Option Maint → ℕ → Bool
keeps_maint I P way None at = true
keeps_maint I P way (Some maint) at =
    if nat_lt at maint.from.0
    then nat_le (minutes_before I P way.plane.0 maint.from.0 + way.minutes) maint.minutes
    else serves I P way.plane.0 maint && not (meets_span at (at + way.minutes) maint.from maint.to)

abbrev pub keeps_maintenance : Situation → PlanRows → Way → ℕ → Bool
keeps_maintenance I P way at = keeps_maint I P way (plane_at I way.plane.0).maint at

-- ---- the airports: there is room in the hours in which the leg departs and arrives

-- where a leg on a way departs or arrives, and when
abbrev pub airport_of : Movement → Way → Airport
airport_of Departure way = way.origin
airport_of Arrival way = way.dest

abbrev pub moment_of : Movement → Way → ℕ → ℕ
moment_of Departure way at = at
moment_of Arrival way at = at + way.minutes

-- how many legs depart from airport a in hour h, or arrive there, and how many may
abbrev pub count_of : Movement → Situation → PlanRows → ℕ → ℕ → ℕ
count_of Departure I P a h = departures I P a h
count_of Arrival I P a h = arrivals I P a h

abbrev pub cap_of : Movement → Situation → ℕ → ℕ → Option ℕ
cap_of movement I a h = cap I (record { movement = movement; airport = record { 0 = a }; hour = h })

abbrev pub is_below : ℕ → Option ℕ → Bool
is_below count None = true
is_below count (Some cap) = nat_lt count cap

-- whether one more may; hours after the hundred years have no caps
abbrev pub has_room : Situation → PlanRows → List Added → Movement → ℕ → ℕ → Bool
has_room I P A movement a h = nat_le all_hours h || is_below (count_of movement (merged_day I P A) (merged_plan I P A) a h) (cap_of movement I a h)

abbrev pub has_slot : Situation → PlanRows → List Added → Movement → Way → ℕ → Bool
has_slot I P A movement way at = has_room I P A movement (airport_of movement way).0 (hour_of (moment_of movement way at))

abbrev pub has_slots : Situation → PlanRows → List Added → Way → ℕ → Bool
has_slots I P A way at = has_slot I P A Departure way at && has_slot I P A Arrival way at

-- ---- all of it

abbrev pub keeps_all : Situation → PlanRows → List Added → Way → ℕ → Bool
keeps_all I P A way at = keeps_maintenance I P way at && has_slots I P A way at

abbrev pub can_depart : Situation → PlanRows → List Added → Way → ℕ → Bool
can_depart I P A way at = is_in_service I way at && keeps_all I P A way at

-- the first moment from `low` on and before `high` that passes a test
pub record IsFirstAt (test : ℕ → Bool) (low high at : ℕ) : Type 0 where
  pub from : low ≤ at
  pub within : at < high
  pub holds : test at ≡ true
  pub first : (s : ℕ) → low ≤ s → s < at → test s ≡ false

abbrev pub IsFirst : (ℕ → Bool) → ℕ → ℕ → Option Minute → Type 0
IsFirst test low high None = (s : ℕ) → low ≤ s → s < high → test s ≡ false
IsFirst test low high (Some at) = IsFirstAt test low high at.0

-- the moments of aircraft p end there
abbrev pub moments_end : Situation → PlanRows → ℕ → ℕ
moments_end I P p = min (ready I P p + 2881) I.parts.to.0

-- What the rules C4 to C9 ask where aircraft have added legs, by the legs of the plan and the added leg of an aircraft.
use Rattle.std.specs.Prelude.{ℕ, ◌+◌, Bool, true, ◌&&◌, ◌||◌, not, ◌==◌, nat_lt, nat_le, if◌then◌else◌, List, slice_index_or, Option, Some, None}
use Rattle.std.specs.List.{list_any}
use Rattle.desk_units.specs.declared.numbers.Leg.{Leg}
use Rattle.desk_data.specs.declared.info.Maint.{Maint}
use Rattle.desk_data.specs.declared.row.Row.{Row}
use Rattle.desk_data.specs.declared.row.Row.TheVariants.{Flown, Cancelled}
use Rattle.desk_data.specs.Situation.{Situation, leg_at, plane_at, spans}
use Rattle.desk_data.specs.PlanRows.{PlanRows}
use Rattle.desk_rules.specs.Rotations.{arr, ground_time}
use Rattle.desk_rules.specs.Rules.{meets_span}
use Rattle.plan_reads.specs.Last.{stand}
use Rattle.added_legs.specs.declared.flight.Flight.{Flight}
use Rattle.plan_checks.specs.declared.upkeep.Upkeep.{Upkeep}
use Rattle.added_legs.specs.Stands.{is_after, stand_with}

-- ---- a leg of the plan, with the leg of the plan before it on its aircraft

-- C5: it leaves where the aircraft stands when it departs
abbrev pub c5_by : Situation → PlanRows → ℕ → Option Leg → List (Option Flight) → Row → Bool
c5_by I P y before flights (Flown plane at) = (plane_at I plane.0).surface || ((leg_at I y).origin.0 == (stand_with I P plane.0 at.0 before (slice_index_or flights plane.0 None)).0)
c5_by I P y before flights Cancelled = true

-- when aircraft p is ready for leg y after a leg, or after none
abbrev pub ready_after : Situation → PlanRows → ℕ → ℕ → Option Leg → ℕ
ready_after I P p y None = 0
ready_after I P p y (Some earlier) = arr I P earlier.0 + ground_time I p earlier.0 y

-- and with its added leg, if that lies between
abbrev pub ready_with : Situation → PlanRows → ℕ → ℕ → ℕ → Option Leg → Option Flight → ℕ
ready_with I P p y at before None = ready_after I P p y before
ready_with I P p y at before (Some f) = if nat_lt f.dep.0 at && is_after P before f.dep.0 then f.dep.0 + f.minutes + (plane_at I p).turnaround else ready_after I P p y before

-- C6: it departs no earlier
abbrev pub c6_by : Situation → PlanRows → ℕ → Option Leg → List (Option Flight) → Row → Bool
c6_by I P y before flights (Flown plane at) = (plane_at I plane.0).surface || nat_le (ready_with I P plane.0 y at.0 before (slice_index_or flights plane.0 None)) at.0
c6_by I P y before flights Cancelled = true

-- ---- the added leg of aircraft p, with the leg of the plan before it

abbrev pub c4_added : Situation → ℕ → Flight → Bool
c4_added I p f = nat_le f.minutes (plane_at I p).range

abbrev pub c5_added : Situation → ℕ → Option Leg → Flight → Bool
c5_added I p earlier f = (plane_at I p).surface || (f.origin.0 == (stand I p earlier).0)

abbrev pub ready_alone : Situation → PlanRows → ℕ → Option Leg → ℕ
ready_alone I P p None = 0
ready_alone I P p (Some earlier) = arr I P earlier.0 + (plane_at I p).turnaround

abbrev pub c6_added : Situation → PlanRows → ℕ → Option Leg → Flight → Bool
c6_added I P p earlier f = (plane_at I p).surface || nat_le (ready_alone I P p earlier) f.dep.0

abbrev pub c7_added : Situation → ℕ → Flight → Bool
c7_added I p f = (plane_at I p).surface || not (list_any (λ span. meets_span f.dep.0 (f.dep.0 + f.minutes) span.0 span.1) (spans I p))

-- ---- the maintenance of aircraft p

-- what the legs of the plan say of it, and the added leg
abbrev pub with_flight : Maint → Upkeep → Option Flight → Upkeep
with_flight maint upkeep None = upkeep
with_flight maint upkeep (Some f) = record {
  stops = upkeep.stops && nat_lt f.dep.0 maint.from.0;
  free = upkeep.free && not (meets_span f.dep.0 (f.dep.0 + f.minutes) maint.from maint.to);
  last = upkeep.last;
  minutes = upkeep.minutes + (if nat_lt f.dep.0 maint.from.0 then f.minutes else 0);
}

-- C8 and C9, with the last leg of the plan before the maintenance
abbrev pub makes_it : Situation → PlanRows → ℕ → Upkeep → Option Leg → Option Flight → Option Maint → Bool
makes_it I P p upkeep last flight None = true
makes_it I P p upkeep last flight (Some maint) =
    (with_flight maint upkeep flight).stops
    || ((with_flight maint upkeep flight).free && ((stand_with I P p maint.from.0 last flight).0 == maint.airport.0))

abbrev pub is_within : Upkeep → Option Flight → Option Maint → Bool
is_within upkeep flight None = true
is_within upkeep flight (Some maint) = nat_le (with_flight maint upkeep flight).minutes maint.minutes

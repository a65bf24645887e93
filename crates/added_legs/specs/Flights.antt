-- Added legs by aircraft, with what the day says of them.
use Rattle.std.specs.Prelude.{◌≡◌, ℕ, ◌+◌, ◌-◌, ◌^◌, ◌<◌, ◌≤◌, min, List, length, slice_index_or, Option, None, Some}
use Rattle.std.specs.Option.{ForSome, option_map}
use Rattle.desk_units.specs.declared.numbers.Leg.{Leg}
use Rattle.desk_data.specs.Situation.{Situation, legs_of, planes_of, airports_of}
use Rattle.desk_data.specs.PlanRows.{PlanRows}
use Rattle.added_legs.specs.declared.added.Added.{Added}
use Rattle.added_legs.specs.Merged.{last_leg, plane_end, minutes_to, added_for}
use Rattle.added_legs.specs.declared.flight.Flight.{Flight}

-- the last leg of each aircraft
pub record AreLastLegs (I : Situation) (P : PlanRows) (lasts : List (Option Leg)) : Type 0 where
  pub planes : length lasts ≡ planes_of I
  pub each : (p : ℕ) → p < planes_of I → last_leg I P p ≡ slice_index_or lasts p None
  pub within : (p : ℕ) → p < planes_of I → ForSome (slice_index_or lasts p None) (λ leg. leg.0 < legs_of I)

-- an added leg of aircraft p, with what the day says of it
abbrev pub flight_of : Situation → PlanRows → ℕ → Added → Flight
flight_of I P p a = record { origin = plane_end I P p; dest = a.dest; minutes = minutes_to I P p a.dest; dep = a.dep }

pub record IsFlight (I : Situation) (f : Flight) : Type 0 where
  pub leaves : f.origin.0 < airports_of I
  pub arrives : f.dest.0 < airports_of I
  pub short : f.minutes ≤ 100000
  pub departs : f.dep.0 < 52596000

-- the minute after an added leg departs: a leg that departs before that is before it
abbrev pub departure_end : Option Flight → ℕ
departure_end None = 0
departure_end (Some f) = min (f.dep.0 + 1) (2 ^ 32 - 1)

-- added legs by aircraft, where there is one
pub record AreRanges (I : Situation) (flights : List (Option Flight)) : Type 0 where
  pub planes : length flights ≡ planes_of I
  pub each : (p : ℕ) → p < planes_of I → ForSome (slice_index_or flights p None) (IsFlight I)

-- the added leg of each aircraft
pub record AreFlights (I : Situation) (P : PlanRows) (A : List Added) (flights : List (Option Flight)) : Type 0 where
  pub each : (p : ℕ) → p < planes_of I → slice_index_or flights p None ≡ option_map (flight_of I P p) (added_for A p)
  pub ranges : AreRanges I flights

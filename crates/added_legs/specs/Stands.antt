-- Where aircraft stand with their added legs, and which aircraft are missing at positions.
use Rattle.std.specs.Prelude.{◌≡◌, ℕ, ◌<◌, ◌-◌, Bool, true, ◌&&◌, nat_lt, nat_le, if◌then◌else◌, List, filter, length, sum_by, slice_index_or, Option, Some, None}
use Rattle.desk_units.specs.declared.numbers.Airport.{Airport}
use Rattle.desk_units.specs.declared.numbers.Leg.{Leg}
use Rattle.desk_units.specs.declared.tariff.Term.TheVariants as term
use Rattle.tariff_prices.specs.Prices.{position_price}
use Rattle.desk_data.specs.declared.info.PositionInfo.{PositionInfo}
use Rattle.desk_data.specs.Situation.{Situation, planes_of, plane_at}
use Rattle.desk_data.specs.PlanRows.{PlanRows}
use Rattle.desk_rules.specs.Numbers.{numbers}
use Rattle.desk_rules.specs.Rotations.{dep}
use Rattle.desk_rules.specs.Cost.{rows_of, weight, by_hour, by_item, is_wanted}
use Rattle.plan_reads.specs.Last.{stand}
use Rattle.plan_checks.specs.Stands.{is_there}
use Rattle.added_legs.specs.declared.flight.Flight.{Flight}

-- whether an added leg comes after a leg of its aircraft: of two that depart together the added one is the later
abbrev pub is_after : PlanRows → Option Leg → ℕ → Bool
is_after P None at = true
is_after P (Some earlier) at = nat_le (dep P earlier.0) at

-- where aircraft p stands at a moment, given the last of its own legs before it: where its added leg arrives, if that departs before the moment and after this leg
abbrev pub stand_with : Situation → PlanRows → ℕ → ℕ → Option Leg → Option Flight → Airport
stand_with I P p at last None = stand I p last
stand_with I P p at last (Some f) = if nat_lt f.dep.0 at && is_after P last f.dep.0 then f.dest else stand I p last

-- and where it ends: surface transport ends nowhere
abbrev pub end_with : Situation → PlanRows → ℕ → Option Leg → Option Flight → Option Airport
end_with I P p last flight = if (plane_at I p).surface then None else Some (stand_with I P p I.parts.to.0 last flight)

-- how many of the first n aircraft are wanted at a position, and end there by these stands
abbrev pub hand_by : Situation → List (Option Airport) → PositionInfo → ℕ → ℕ
hand_by I stands position n = length (filter (λ p. is_wanted position (plane_at I p) && is_there (slice_index_or stands p None) position.airport.0) (numbers n))

-- what the aircraft cost that are missing at a position, and at all
abbrev pub missing_by : Situation → List (Option Airport) → PositionInfo → ℕ
missing_by I stands position = by_item (weight I term.Position) (position_price (rows_of I)) (position.count - hand_by I stands position (planes_of I))

unfoldable pub position_by : Situation → List (Option Airport) → ℕ
position_by I stands = sum_by (missing_by I stands) I.parts.positions

-- what an aircraft's added leg costs, if it has one
abbrev pub flight_cost : Situation → ℕ → Option Flight → ℕ
flight_cost I p None = 0
flight_cost I p (Some f) = by_hour (weight I term.Operating) (plane_at I p).hourly.0 f.minutes

-- and those of the first n aircraft
abbrev pub flights_cost : Situation → List (Option Flight) → ℕ → ℕ
flights_cost I flights n = sum_by (λ p. flight_cost I p (slice_index_or flights p None)) (numbers n)

-- where each aircraft ends, by these last legs before the window's end and these added legs
pub record AreEnds (I : Situation) (P : PlanRows) (lasts : List (Option Leg)) (flights : List (Option Flight)) (stands : List (Option Airport)) : Type 0 where
  pub planes : length stands ≡ planes_of I
  pub each : (p : ℕ) → p < planes_of I → slice_index_or stands p None ≡ end_with I P p (slice_index_or lasts p None) (slice_index_or flights p None)

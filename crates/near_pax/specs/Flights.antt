-- Flown legs as they are sorted: by the airport that they leave, then by that where they arrive, then by departure, then by leg.
use Rattle.std.specs.Prelude.{ℕ, List, Option, Some, None}
use Rattle.std.specs.Ordering.{nat_cmp, ordering_then}
use Rattle.std.specs.List.{filter_map}
use Rattle.std.specs.List.Sorted.{IsPermutation, IsSorted}
use Rattle.std.specs.declared.cmp.Ordering.{Ordering}
use Rattle.desk_data.specs.declared.row.Row.{Row}
use Rattle.desk_data.specs.declared.row.Row.TheVariants.{Flown, Cancelled}
use Rattle.desk_data.specs.Situation.{Situation, legs_of, leg_at}
use Rattle.desk_data.specs.PlanRows.{PlanRows, row_at}
use Rattle.desk_rules.specs.Numbers.{numbers}
use Rattle.near_pax.specs.declared.flights.Flight.{Flight}

-- the flight of leg x, if its row is flown
abbrev pub flight_of : Situation → ℕ → Row → Option Flight
flight_of I x (Flown plane dep) = Some (record { from = (leg_at I x).origin; to = (leg_at I x).dest; dep = dep; leg = record { 0 = x } })
flight_of I x Cancelled = None

-- the flights of the first n legs, by leg
abbrev pub flights_of : Situation → PlanRows → ℕ → List Flight
flights_of I P n = filter_map (λ x. flight_of I x (row_at P x)) (numbers n)

abbrev pub flight_cmp : Flight → Flight → Ordering
flight_cmp a b = ordering_then (nat_cmp a.from.0 b.from.0) (ordering_then (nat_cmp a.to.0 b.to.0) (ordering_then (nat_cmp a.dep.0 b.dep.0) (nat_cmp a.leg.0 b.leg.0)))

-- the flights of a plan, sorted
pub record IsNetOf (I : Situation) (P : PlanRows) (flights : List Flight) : Type 0 where
  pub same : IsPermutation (flights_of I P (legs_of I)) flights
  pub order : IsSorted flight_cmp flights

-- The legs that are sought from an airport, and where the flights stand among which they are.
use Rattle.std.specs.Prelude.{◌≡◌, ℕ, Bool, true, false, ◌&&◌, ◌||◌, nat_lt, nat_le, ◌==◌, List, ◌++◌, Option, Some, None, All}
use Rattle.desk_units.specs.declared.numbers.Airport.{Airport}
use Rattle.desk_data.specs.Situation.{Situation, leg_at}
use Rattle.desk_data.specs.PlanRows.{PlanRows, row_at}
use Rattle.desk_rules.specs.Rotations.{dep, arr}
use Rattle.desk_rules.specs.Passengers.{is_flown}
use Rattle.near_pax.specs.declared.flights.Flight.{Flight}
use Rattle.near_pax.specs.declared.sought.Sought.{Sought}

-- whether an airport is the one that is named, if any is
abbrev pub goes_to : ℕ → Option Airport → Bool
goes_to dest None = true
goes_to dest (Some airport) = dest == airport.0

-- whether leg x is flown from the airport, to the one that is named, departs early enough and arrives in time
unfoldable pub is_sought : Situation → PlanRows → Sought → ℕ → Bool
is_sought I P sought x =
    is_flown (row_at P x)
    && ((leg_at I x).origin.0 == sought.from.0)
    && goes_to (leg_at I x).dest.0 sought.to
    && nat_le sought.earliest (dep P x)
    && nat_lt (arr I P x) sought.until

-- whether of the flights from an airport one stands before those to the airport that is named that leave from a minute on; where none is named, so do all or none
abbrev pub goes_before : ℕ → ℕ → Option Airport → ℕ → Bool → Bool
goes_before dest dep None at all = all
goes_before dest dep (Some airport) at all = nat_lt dest airport.0 || ((dest == airport.0) && nat_lt dep at)

-- whether a flight stands before those from an airport
abbrev pub leaves_before : Flight → ℕ → Option Airport → ℕ → Bool → Bool
leaves_before flight from to at all = nat_lt flight.from.0 from || ((flight.from.0 == from) && goes_before flight.to.0 flight.dep.0 to at all)

-- whether a flight leaves the airport for the one that is named, early enough and in time
abbrev pub is_within : Sought → Flight → Bool
is_within sought flight = (flight.from.0 == sought.from.0) && (goes_to flight.to.0 sought.to && (nat_le sought.earliest flight.dep.0 && nat_lt flight.dep.0 sought.until))

-- some flights in a row, such that no flight before them or after them does
pub record IsWindow (sought : Sought) (flights part : List Flight) : Type 0 where
  pub before : List Flight
  pub after : List Flight
  pub whole : flights ≡ before ++ (part ++ after)
  pub none_before : All (λ flight. is_within sought flight ≡ false) before
  pub none_after : All (λ flight. is_within sought flight ≡ false) after

-- The legs of the rotations, one a row, and the previous leg of each.
use Rattle.std.specs.Prelude.{ℕ, ◌+◌, ◌-◌, ◌*◌, Bool, not, ◌&&◌, ◌||◌, List, position, Option, Some, None, option_map, unwrap_or, bytes_eq, nat_le, All, IsSome}
use Rattle.std.specs.List.{list_all}
use Rattle.std.specs.Option.{option_map_or}
use Rattle.desk_units.specs.declared.numbers.Leg.{Leg}
use Rattle.desk_units.specs.declared.numbers.Airport.{Airport}
use Rattle.desk_units.specs.declared.numbers.Haul.{Haul}
use Rattle.desk_units.specs.declared.numbers.Haul.TheVariants.{D}
use Rattle.desk_data.specs.declared.info.LegInfo.{LegInfo}
use Rattle.desk_data.specs.Situation.{no_leg}
use Rattle.file_rows.specs.declared.legs.FlightRow.{FlightRow}
use Rattle.file_rows.specs.declared.legs.RotationRow.{RotationRow}
use Rattle.file_rows.specs.declared.network.AirportRow.{AirportRow}
use Rattle.file_rows.specs.declared.network.DistRow.{DistRow}
use Rattle.build_tables.specs.declared.files.Files.{Files}
use Rattle.build_tables.specs.Departures.{departure_on}
use Rattle.build_tables.specs.Names.{flight_named, rotation_place, airport_place, aircraft_place, distance_between}

infixl 10 ◌>>=◌
-- what is found, and then what f finds by it
abbrev pub ◌>>=◌ : {A B : Type 0} → Option A → (A → Option B) → Option B
(Some x) >>= f = f x
None >>= f = None

-- the scheduled arrival of a flight on a day
abbrev pub arrival_on : FlightRow → ℕ → ℕ
arrival_on flight day = 1440 * day + flight.arr

-- whether this rotation of the flight arrives by then, and at most 1,440 minutes before
abbrev pub is_in_time : FlightRow → ℕ → RotationRow → Bool
is_in_time flight at row = bytes_eq flight.flight row.flight && (nat_le (arrival_on flight row.day) at && nat_le at (arrival_on flight row.day + 1440))

-- whether no rotation in time for then arrives later than this one
abbrev pub is_last_in_time : FlightRow → ℕ → List RotationRow → RotationRow → Bool
is_last_in_time flight at rotations row = list_all (λ other. not (is_in_time flight at other) || nat_le (arrival_on flight other.day) (arrival_on flight row.day)) rotations

-- the place of the rotation of the flight that is in time for then and arrives last
unfoldable pub last_in_time : FlightRow → ℕ → List RotationRow → Option ℕ
last_in_time flight at rotations = position (λ row. is_in_time flight at row && is_last_in_time flight at rotations row) rotations

-- the place of the previous leg of the flight's leg on a day: the last in time of the previous flight that the flight names
unfoldable pub previous_place : Files → FlightRow → ℕ → Option ℕ
previous_place x flight day = do
  name ← flight.prev
  previous ← flight_named x.flights name
  last_in_time previous (departure_on flight day) x.rotations

-- a number that has a place, else 0
abbrev pub airport_of : List AirportRow → List ℕ → Airport
airport_of airports name = record { 0 = unwrap_or (airport_place airports name) 0 }

-- the minutes and the haul of a distance
abbrev pub minutes_of : Option DistRow → ℕ
minutes_of distance = option_map_or (λ row. row.minutes) distance 0

abbrev pub haul_of : Option DistRow → Haul
haul_of distance = option_map_or (λ row. row.haul) distance D

abbrev pub leg_number : ℕ → Leg
leg_number place = record { 0 = place }

abbrev pub leg_at : List RotationRow → List ℕ → ℕ → Leg
leg_at rotations flight day = leg_number (unwrap_or (rotation_place rotations flight day) 0)

-- the leg of a rotation of this flight
unfoldable pub leg_by : Files → RotationRow → FlightRow → LegInfo
leg_by x row flight = record {
  flight = row.flight;
  day = row.day;
  origin = airport_of x.airports flight.origin;
  dest = airport_of x.airports flight.dest;
  sched = record { 0 = departure_on flight row.day };
  block = flight.arr - flight.dep;
  distance = minutes_of (distance_between x.dist flight.origin flight.dest);
  haul = haul_of (distance_between x.dist flight.origin flight.dest);
  plane = record { 0 = unwrap_or (aircraft_place x.aircraft row.aircraft) 0 };
  prev = option_map leg_number (previous_place x flight row.day);
}

-- the leg of a rotation
unfoldable pub leg_of : Files → RotationRow → LegInfo
leg_of x row = option_map_or (leg_by x row) (flight_named x.flights row.flight) no_leg

-- each rotation is of a flight of the file
abbrev pub HasKnownFlights : Files → Type 0
HasKnownFlights x = All (λ row. IsSome (flight_named x.flights row.flight)) x.rotations

-- Rows that fit together, so that they make a day.
use Rattle.std.specs.Prelude.{◌≡◌, ◌≢◌, ℕ, ◌+◌, ◌<◌, ◌≤◌, false, List, length, take, get_or, sum_by, All, Some, IsSome}
use Rattle.std.specs.List.{AllPairs}
use Rattle.std.specs.Option.{ForSome}
use Rattle.desk_units.specs.declared.numbers.Minute.{Minute}
use Rattle.file_rows.specs.declared.network.AirportRow.{AirportRow}
use Rattle.file_rows.specs.declared.legs.FlightRow.{FlightRow}
use Rattle.file_rows.specs.declared.legs.RotationRow.{RotationRow}
use Rattle.file_rows.specs.declared.fleet.AircraftRow.{AircraftRow}
use Rattle.file_rows.specs.declared.passengers.ItineraryRow.{ItineraryRow}
use Rattle.file_rows.specs.declared.disruptions.AltRow.{AltRow}
use Rattle.file_rows.specs.declared.disruptions.AltRow.TheVariants as alt
use Rattle.tariff_prices.specs.Rows.{same_key}
use Rattle.build_tables.specs.declared.files.Files.{Files}
use Rattle.build_tables.specs.Departures.{departure_on}
use Rattle.file_rows.specs.Limits.{most_flights, most_aircraft, most_airports, most_itineraries, most_passengers, most_legs, most_groups, most_tariff_rows, most_batches, latest_departure, latest_moment}
use Rattle.file_rows.specs.Moments.{moment_in}
use Rattle.build_tables.specs.Names.{flight_named, rotation_place, airport_place, aircraft_place}
use Rattle.build_tables.specs.Batches.{last_batch, moment_before}

-- no file has more rows than its limit, and the feed has no more batches
pub record AreFew (x : Files) : Type 0 where
  pub rotations : length x.rotations ≤ most_flights
  pub aircraft : length x.aircraft ≤ most_aircraft
  pub airports : length x.airports ≤ most_airports
  pub itineraries : length x.itineraries ≤ most_itineraries
  pub groups : sum_by (λ row. length row.groups) x.position ≤ most_groups
  pub tariff : length x.tariff.rows ≤ most_tariff_rows
  pub batches : last_batch x.feed ≤ most_batches

-- no two rows of a file are of one name; rotations are named by flight and day, reservations by name and type
pub record AreApart (x : Files) : Type 0 where
  pub rotations : AllPairs (λ a b. a.flight ≡ b.flight → a.day ≢ b.day) x.rotations
  pub aircraft : AllPairs (λ a b. a.name ≢ b.name) x.aircraft
  pub airports : AllPairs (λ a b. a.airport ≢ b.airport) x.airports
  pub itineraries : AllPairs (λ a b. a.name ≡ b.name → a.inbound ≢ b.inbound) x.itineraries
  pub tariff : AllPairs (λ a b. same_key a b ≡ false) x.tariff.rows

-- the flight of a rotation is this one, whose airports are known, as the aircraft is, and it departs in time
pub record IsRotationOf (x : Files) (row : RotationRow) (flight : FlightRow) : Type 0 where
  pub named : flight_named x.flights row.flight ≡ Some flight
  pub origin : IsSome (airport_place x.airports flight.origin)
  pub dest : IsSome (airport_place x.airports flight.dest)
  pub aircraft : IsSome (aircraft_place x.aircraft row.aircraft)
  pub soon : departure_on flight row.day ≤ latest_departure

-- the airports of an aircraft are known: its origin, and that of its maintenance
pub record HasKnownAirports (airports : List AirportRow) (row : AircraftRow) : Type 0 where
  pub origin : IsSome (airport_place airports row.origin)
  pub maint : ForSome row.maint (λ maint. IsSome (airport_place airports maint.airport))

-- a reservation has no more passengers and legs than it may have, and there is a rotation of each of its legs
pub record IsOnRotations (rotations : List RotationRow) (row : ItineraryRow) : Type 0 where
  pub count : row.count ≤ most_passengers
  pub short : length row.legs ≤ most_legs
  pub legs : All (λ leg. IsSome (rotation_place rotations leg.flight leg.day)) row.legs

-- what an order is about is known: its leg, its aircraft or its airport; a row without an order is about nothing
abbrev pub IsAboutKnown : Files → AltRow → Type 0
IsAboutKnown x (alt.Flight line flight day delay) = IsSome (rotation_place x.rotations flight day)
IsAboutKnown x (alt.Aircraft line aircraft from to) = IsSome (aircraft_place x.aircraft aircraft)
IsAboutKnown x (alt.Field line airport from to deps arrs) = IsSome (airport_place x.airports airport)
IsAboutKnown x (alt.Nothing line) = Unit {0}
IsAboutKnown x (alt.At line at) = Unit {0}

-- after these rows of the feed, a row is of the batch of the last one or of the next batch
pub record IsInTurn (before : List (ℕ × AltRow)) (fed : ℕ × AltRow) : Type 0 where
  pub least : last_batch before ≤ fed.0
  pub most : fed.0 ≤ last_batch before + 1

-- after these rows of the feed, a row may tell this moment of its batch: it is the first row of the batch, and the moment is not before that of the batch before, which is that of the opening at first, and not past the latest one
pub record IsMomentInTurn (opening : Minute) (before : List (ℕ × AltRow)) (number : ℕ) (at : Minute) : Type 0 where
  pub first : last_batch before < number
  pub least : (moment_before opening before).0 ≤ at.0
  pub most : at.0 ≤ latest_moment

-- the rows are few, no two are alike, each name in them is known, and the batches of the feed and their moments come in turn
pub record FitTogether (x : Files) : Type 0 where
  pub few : AreFew x
  pub apart : AreApart x
  pub rotations : All (λ row. (flight : FlightRow) × IsRotationOf x row flight) x.rotations
  pub aircraft : All (HasKnownAirports x.airports) x.aircraft
  pub itineraries : All (IsOnRotations x.rotations) x.itineraries
  pub position : All (λ row. IsSome (airport_place x.airports row.airport)) x.position
  pub alt_flights : All (IsAboutKnown x) x.alt_flights
  pub alt_aircraft : All (IsAboutKnown x) x.alt_aircraft
  pub alt_airports : All (IsAboutKnown x) x.alt_airports
  pub feed : All (λ fed. IsAboutKnown x fed.1) x.feed
  pub turns : (k : ℕ) (fed : ℕ × AltRow) → k < length x.feed → IsInTurn (take k x.feed) (get_or x.feed k fed)
  pub moments : (k : ℕ) (fed : ℕ × AltRow) → k < length x.feed → ForSome (moment_in (get_or x.feed k fed).1) (IsMomentInTurn x.config.from (take k x.feed) (get_or x.feed k fed).0)

-- What holds of the rows of the files, as their readers give them.
use Rattle.std.specs.Prelude.{ℕ, ◌+◌, ◌<◌, ◌≤◌, length, All, IfSome}
use Rattle.std.specs.Option.{ForSome}
use Rattle.desk_units.specs.declared.numbers.Seats.{Seats}
use Rattle.desk_units.specs.Padded.{IsNameLength}
use Rattle.file_rows.specs.declared.legs.FlightRow.{FlightRow}
use Rattle.file_rows.specs.declared.legs.RotationRow.{RotationRow}
use Rattle.file_rows.specs.declared.fleet.MaintRow.{MaintRow}
use Rattle.file_rows.specs.declared.fleet.AircraftRow.{AircraftRow}
use Rattle.file_rows.specs.declared.fleet.PositionGroup.{PositionGroup}
use Rattle.file_rows.specs.declared.fleet.PositionRow.{PositionRow}
use Rattle.file_rows.specs.declared.network.Window.{Window}
use Rattle.file_rows.specs.declared.network.CapRow.{CapRow}
use Rattle.file_rows.specs.declared.network.AirportRow.{AirportRow}
use Rattle.file_rows.specs.declared.network.DistRow.{DistRow}
use Rattle.file_rows.specs.declared.disruptions.AltRow.{AltRow}
use Rattle.file_rows.specs.declared.disruptions.AltRow.TheVariants as alt
use Rattle.file_rows.specs.declared.passengers.LegRow.{LegRow}
use Rattle.file_rows.specs.declared.passengers.ItineraryRow.{ItineraryRow}
use Rattle.file_rows.specs.Seen.{IsSeen}

-- ---- flights.csv and rotations.csv

-- a flight's names can be seen; it departs in the ten days from its date on, and arrives 1 to 2,880 minutes later
pub record IsFlight (row : FlightRow) : Type 0 where
  pub flight : IsSeen row.flight
  pub origin : IsSeen row.origin
  pub dest : IsSeen row.dest
  pub departs : row.dep < 14400
  pub later : row.dep < row.arr
  pub soon : row.arr ≤ row.dep + 2880
  pub prev : IfSome row.prev IsSeen

-- the names of a flight and its aircraft can be seen, and its day is of the years 2000 to 2099
pub record IsRotation (row : RotationRow) : Type 0 where
  pub flight : IsSeen row.flight
  pub day : row.day < 36525
  pub aircraft : IsSeen row.aircraft

-- ---- aircraft.csv and position.csv

-- at most 999 seats in each cabin
pub record AreSeats (seats : Seats) : Type 0 where
  pub f : seats.f ≤ 999
  pub b : seats.b ≤ 999
  pub e : seats.e ≤ 999

-- moments of the years 2000 to 2099, and at most 100,000 minutes
pub record IsMaint (row : MaintRow) : Type 0 where
  pub from : row.from.0 < 52596000
  pub to : row.to.0 < 52596000
  pub minutes : row.minutes ≤ 100000

-- an aircraft's names can be seen, and its numbers are in their ranges
pub record IsAircraft (row : AircraftRow) : Type 0 where
  pub name : IsSeen row.name
  pub model : IsSeen row.model
  pub family : IsSeen row.family
  pub seats : AreSeats row.seats
  pub range : row.range ≤ 100000
  pub hourly : row.hourly.0 ≤ 9999999999999
  pub turnaround : row.turnaround ≤ 2880
  pub transit : row.transit ≤ 2880
  pub origin : IsSeen row.origin
  pub maint : IfSome row.maint IsMaint

-- at most 1,000 aircraft with such seats, of a model whose name can be seen
pub record IsGroup (group : PositionGroup) : Type 0 where
  pub model : IsSeen group.model
  pub seats : AreSeats group.seats
  pub count : group.count ≤ 1000

-- the airport's name can be seen, and each group has what it should
pub record IsPosition (row : PositionRow) : Type 0 where
  pub airport : IsSeen row.airport
  pub groups : All IsGroup row.groups

-- ---- config.csv, airports.csv and dist.csv

-- a window's moments are of the years 2000 to 2099
pub record IsWindow (row : Window) : Type 0 where
  pub from : row.from.0 < 52596000
  pub to : row.to.0 < 52596000

-- the caps of part of the day
pub record IsCap (row : CapRow) : Type 0 where
  pub deps : row.deps ≤ 100000
  pub arrs : row.arrs ≤ 100000
  pub from : row.from < 1440
  pub to : row.to ≤ 1440

-- an airport's name has 1 to 32 bytes that can be seen, and there are caps, all in their ranges
pub record IsAirport (row : AirportRow) : Type 0 where
  pub airport : IsNameLength (length row.airport)
  pub seen : IsSeen row.airport
  pub some : 1 ≤ length row.groups
  pub groups : All IsCap row.groups

-- a distance is at most 100,000 minutes
pub record IsDistance (row : DistRow) : Type 0 where
  pub origin : IsNameLength (length row.origin)
  pub dest : IsNameLength (length row.dest)
  pub minutes : row.minutes ≤ 100000

-- ---- itineraries.csv

-- a leg's flight can be seen, and its day is of the years 2000 to 2099
pub record IsLeg (leg : LegRow) : Type 0 where
  pub flight : IsSeen leg.flight
  pub day : leg.day < 36525

-- a reservation's name can be seen, its price is in its range, and it has passengers and legs
pub record IsItinerary (row : ItineraryRow) : Type 0 where
  pub name : IsSeen row.name
  pub price : row.price.0 ≤ 9999999999999
  pub count : 1 ≤ row.count
  pub some : 1 ≤ length row.legs
  pub legs : All IsLeg row.legs

-- ---- alt_flights.csv, alt_aircraft.csv, alt_airports.csv and feed.csv

-- a day of the years 2000 to 2099, moments of these years, at most 2,880 minutes of delay, and at most 100,000 an hour; a batch becomes known in these years too
abbrev pub IsAlt : AltRow → Type 0
IsAlt (alt.Flight line flight day delay) = (day < 36525) × ForSome delay (λ minutes. minutes ≤ 2880)
IsAlt (alt.Aircraft line aircraft from to) = (from.0 < 52596000) × (to.0 < 52596000)
IsAlt (alt.Field line airport from to deps arrs) = ((from.0 < 52596000) × (to.0 < 52596000)) × ((deps ≤ 100000) × (arrs ≤ 100000))
IsAlt (alt.Nothing line) = Unit {0}
IsAlt (alt.At line at) = at.0 < 52596000

-- a row of the feed, with the number of its batch
pub record IsFed (fed : ℕ × AltRow) : Type 0 where
  pub least : 1 ≤ fed.0
  pub most : fed.0 ≤ 999999999
  pub row : IsAlt fed.1

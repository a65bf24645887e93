-- What the rows of the files name. A name stands for the first row that has it.
use Rattle.std.specs.Prelude.{ℕ, List, map, Bool, ◌&&◌, ◌==◌, find, position, Option, bytes_eq}
use Rattle.std.specs.Option.{option_or}
use Rattle.file_rows.specs.declared.legs.FlightRow.{FlightRow}
use Rattle.file_rows.specs.declared.legs.RotationRow.{RotationRow}
use Rattle.file_rows.specs.declared.fleet.AircraftRow.{AircraftRow}
use Rattle.file_rows.specs.declared.network.AirportRow.{AirportRow}
use Rattle.file_rows.specs.declared.network.DistRow.{DistRow}
use Rattle.file_rows.specs.declared.passengers.LegRow.{LegRow}
use Rattle.file_rows.specs.declared.passengers.ItineraryRow.{ItineraryRow}

-- the flight of this name
abbrev pub flight_named : List FlightRow → List ℕ → Option FlightRow
flight_named flights name = find (λ f. bytes_eq name f.flight) flights

-- the place of the rotation of a flight on a day, counted from 0
abbrev pub rotation_place : List RotationRow → List ℕ → ℕ → Option ℕ
rotation_place rotations flight day = position (λ row. bytes_eq flight row.flight && (day == row.day)) rotations

-- the place of the rotation of a leg, and of each leg of a reservation
abbrev pub leg_place : List RotationRow → LegRow → Option ℕ
leg_place rotations leg = rotation_place rotations leg.flight leg.day

abbrev pub leg_places : List RotationRow → ItineraryRow → List (Option ℕ)
leg_places rotations row = map (leg_place rotations) row.legs

-- the place of an airport and of an aircraft, counted from 0
abbrev pub airport_place : List AirportRow → List ℕ → Option ℕ
airport_place airports name = position (λ a. bytes_eq name a.airport) airports

abbrev pub aircraft_place : List AircraftRow → List ℕ → Option ℕ
aircraft_place aircraft name = position (λ a. bytes_eq name a.name) aircraft

-- whether a row is the distance from the one airport to the other
abbrev pub is_between : List ℕ → List ℕ → DistRow → Bool
is_between origin dest row = bytes_eq origin row.origin && bytes_eq dest row.dest

-- the distance between two airports: the first row from the one to the other, else the first row in the opposite direction
abbrev pub distance_between : List DistRow → List ℕ → List ℕ → Option DistRow
distance_between dist origin dest = option_or (find (is_between origin dest) dist) (find (is_between dest origin) dist)

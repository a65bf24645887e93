-- Why a row of rotations.csv is refused.
use Rattle.std.specs.Prelude.{ℕ, Bool, false, not, ◌&&◌, ◌||◌, ◌==◌, List, take, Option, Some, None, is_some, bytes_eq, nat_lt, nat_le, if◌then◌else◌}
use Rattle.std.specs.List.{list_any}
use Rattle.std.specs.Option.{option_map_or}
use Rattle.file_rows.specs.declared.cause.Cause.{Cause}
use Rattle.file_rows.specs.declared.cause.Cause.TheVariants.{Unknown, Twice, NoDistance, Limit}
use Rattle.file_rows.specs.declared.network.AirportRow.{AirportRow}
use Rattle.file_rows.specs.declared.legs.FlightRow.{FlightRow}
use Rattle.file_rows.specs.declared.legs.RotationRow.{RotationRow}
use Rattle.build_tables.specs.declared.files.Files.{Files}
use Rattle.build_tables.specs.Departures.{departure_on}
use Rattle.file_rows.specs.Limits.{most_flights, latest_departure}
use Rattle.build_tables.specs.Names.{flight_named, airport_place, aircraft_place, distance_between}

-- whether a rotation departs too late; an unknown flight has no departure
abbrev pub departs_late : List FlightRow → RotationRow → Bool
departs_late flights row = option_map_or (λ f. nat_lt latest_departure (departure_on f row.day)) (flight_named flights row.flight) false

-- whether the flight, its two airports and the aircraft are known
abbrev pub has_airports : List AirportRow → FlightRow → Bool
has_airports airports f = is_some (airport_place airports f.origin) && is_some (airport_place airports f.dest)

abbrev pub is_known : Files → RotationRow → Bool
is_known x row = option_map_or (has_airports x.airports) (flight_named x.flights row.flight) false && is_some (aircraft_place x.aircraft row.aircraft)

-- whether there is a distance between the airports of the flight
abbrev pub has_distance : Files → RotationRow → Bool
has_distance x row = option_map_or (λ f. is_some (distance_between x.dist f.origin f.dest)) (flight_named x.flights row.flight) false

-- whether two rotations are of one flight on one day
abbrev pub is_same_leg : RotationRow → RotationRow → Bool
is_same_leg a b = bytes_eq a.flight b.flight && (a.day == b.day)

-- one rotation too many or one too late, a name that is not there, no distance, a flight and day that stood before
unfoldable pub rotation_cause : Files → ℕ → RotationRow → Option Cause
rotation_cause x n row =
    if nat_le most_flights n || departs_late x.flights row then Some Limit
    else (if not (is_known x row) then Some Unknown
    else (if not (has_distance x row) then Some NoDistance
    else (if list_any (is_same_leg row) (take n x.rotations) then Some Twice
    else None)))

-- Why a row of aircraft.csv is refused.
use Rattle.std.specs.Prelude.{ℕ, Bool, true, not, ◌&&◌, List, take, Option, Some, None, is_some, bytes_eq, nat_lt, nat_le, if◌then◌else◌}
use Rattle.std.specs.List.{list_any}
use Rattle.std.specs.Option.{option_map_or}
use Rattle.file_rows.specs.declared.cause.Cause.{Cause}
use Rattle.file_rows.specs.declared.cause.Cause.TheVariants.{Unknown, Twice, Limit, BadWindow}
use Rattle.file_rows.specs.declared.network.AirportRow.{AirportRow}
use Rattle.file_rows.specs.declared.fleet.MaintRow.{MaintRow}
use Rattle.file_rows.specs.declared.fleet.AircraftRow.{AircraftRow}
use Rattle.build_tables.specs.declared.files.Files.{Files}
use Rattle.file_rows.specs.Limits.{most_aircraft}
use Rattle.build_tables.specs.Names.{airport_place}

-- whether the airport of an aircraft's maintenance is known, where it has one
abbrev pub has_known_maintenance : List AirportRow → Option MaintRow → Bool
has_known_maintenance airports maint = option_map_or (λ m. is_some (airport_place airports m.airport)) maint true

-- whether its maintenance ends after its start
abbrev pub has_good_window : Option MaintRow → Bool
has_good_window maint = option_map_or (λ m. nat_lt m.from.0 m.to.0) maint true

-- one aircraft too many, a name that stood before, an airport that is not there, a maintenance of no length
unfoldable pub aircraft_cause : Files → ℕ → AircraftRow → Option Cause
aircraft_cause x n row =
    if nat_le most_aircraft n then Some Limit
    else (if list_any (λ a. bytes_eq row.name a.name) (take n x.aircraft) then Some Twice
    else (if not (is_some (airport_place x.airports row.origin) && has_known_maintenance x.airports row.maint) then Some Unknown
    else (if has_good_window row.maint then None
    else Some BadWindow)))

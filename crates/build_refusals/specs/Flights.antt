-- Why a row of flights.csv is refused.
use Rattle.std.specs.Prelude.{ℕ, Bool, true, false, List, take, Option, Some, None, bytes_eq, nat_le, if◌then◌else◌}
use Rattle.std.specs.List.{list_any}
use Rattle.std.specs.Option.{option_map_or}
use Rattle.file_rows.specs.declared.cause.Cause.{Cause}
use Rattle.file_rows.specs.declared.cause.Cause.TheVariants.{Twice, Limit, BadPrev}
use Rattle.file_rows.specs.declared.legs.FlightRow.{FlightRow}
use Rattle.file_rows.specs.Limits.{most_flights}
use Rattle.build_tables.specs.Names.{flight_named}

-- whether the previous flight is in the file and ends at this airport; a flight that names none has nothing to meet
abbrev pub ends_at : List FlightRow → List ℕ → List ℕ → Bool
ends_at flights airport name = option_map_or (λ f. bytes_eq f.dest airport) (flight_named flights name) false

abbrev pub has_good_previous : List FlightRow → FlightRow → Bool
has_good_previous flights row = option_map_or (ends_at flights row.origin) row.prev true

-- one flight too many, a name that stood before, a previous flight that is not there or ends elsewhere
unfoldable pub flight_cause : List FlightRow → ℕ → FlightRow → Option Cause
flight_cause flights n row =
    if nat_le most_flights n then Some Limit
    else (if list_any (λ f. bytes_eq row.flight f.flight) (take n flights) then Some Twice
    else (if has_good_previous flights row then None
    else Some BadPrev))

-- Why a row of airports.csv is refused.
use Rattle.std.specs.Prelude.{ℕ, List, take, Option, Some, None, bytes_eq, nat_le, if◌then◌else◌}
use Rattle.std.specs.List.{list_any}
use Rattle.file_rows.specs.declared.cause.Cause.{Cause}
use Rattle.file_rows.specs.declared.cause.Cause.TheVariants.{Twice, Limit}
use Rattle.file_rows.specs.declared.network.AirportRow.{AirportRow}
use Rattle.file_rows.specs.Limits.{most_airports}

-- one airport too many, a name that stood before
unfoldable pub airport_cause : List AirportRow → ℕ → AirportRow → Option Cause
airport_cause airports n row =
    if nat_le most_airports n then Some Limit
    else (if list_any (λ a. bytes_eq row.airport a.airport) (take n airports) then Some Twice
    else None)

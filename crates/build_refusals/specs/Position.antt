-- Why a row of position.csv is refused.
use Rattle.std.specs.Prelude.{ℕ, ◌+◌, List, length, take, sum_by, Option, Some, None, is_some, nat_lt, if◌then◌else◌}
use Rattle.file_rows.specs.declared.cause.Cause.{Cause}
use Rattle.file_rows.specs.declared.cause.Cause.TheVariants.{Unknown, Limit}
use Rattle.file_rows.specs.declared.fleet.PositionRow.{PositionRow}
use Rattle.build_tables.specs.declared.files.Files.{Files}
use Rattle.file_rows.specs.Limits.{most_groups}
use Rattle.build_tables.specs.Names.{airport_place}

-- how many groups the first n rows have
abbrev pub groups_in : ℕ → List PositionRow → ℕ
groups_in n rows = sum_by (λ row. length row.groups) (take n rows)

-- the row that holds the first group too many is past the limit, as those after it are; an airport that is not there
unfoldable pub position_cause : Files → ℕ → PositionRow → Option Cause
position_cause x n row =
    if nat_lt most_groups (groups_in (n + 1) x.position) then Some Limit
    else (if is_some (airport_place x.airports row.airport) then None
    else Some Unknown)

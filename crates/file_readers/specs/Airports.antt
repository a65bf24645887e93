-- The file of airports.
use Rattle.std.specs.Prelude.{ℕ, ◌%◌, List, [], ◌∷◌, length, Result, Ok, Err, nat_le, ◌==◌, ◌&&◌, if◌then◌else◌}
use Rattle.file_rows.specs.declared.cause.Cause.{Cause}
use Rattle.file_rows.specs.declared.cause.Cause.TheVariants as causes
use Rattle.desk_text.specs.Fields.{name_of, number_of}
use Rattle.desk_text.specs.Moments.{minute_of}
use Rattle.desk_text.specs.Rows.{◌>>=◌, RowOf, next_field}
use Rattle.file_rows.specs.declared.network.CapRow.{CapRow}
use Rattle.file_rows.specs.declared.network.AirportRow.{AirportRow}
use Rattle.file_readers.specs.Times.{end_of}

-- DEPARTURES ARRIVALS FROM TO
unfoldable pub cap_of : List ℕ → List ℕ → List ℕ → List ℕ → Result CapRow Cause
cap_of departures arrivals start end = do
  deps ← number_of 0 100000 departures
  arrs ← number_of 0 100000 arrivals
  from ← minute_of start
  to ← end_of end
  Ok (record { deps = deps; arrs = arrs; from = from; to = to })

-- this one before the others, where these are read
abbrev pub before_all : CapRow → Result (List CapRow) Cause → Result (List CapRow) Cause
before_all cap others = others >>= λ caps. Ok (cap ∷ caps)

-- the caps of fields that are groups of four; a last group that is not whole has too few fields
unfoldable pub caps_of : List (List ℕ) → Result (List CapRow) Cause
caps_of [] = Ok []
caps_of (departures ∷ arrivals ∷ start ∷ end ∷ others) = do
  cap ← cap_of departures arrivals start end
  before_all cap (caps_of others)
caps_of _ = Err causes.Fields

-- the fields, where they are one or more whole groups of four
abbrev pub groups_of_four : List (List ℕ) → Result (List (List ℕ)) Cause
groups_of_four fields = if nat_le 1 (length fields) && (length fields % 4 == 0) then Ok fields else Err causes.Fields

-- AIRPORT, and one or more groups
unfoldable pub airport_row : RowOf AirportRow
airport_row line fields = do
  first ← next_field fields
  groups ← groups_of_four first.1
  airport ← name_of first.0
  caps ← caps_of groups
  Ok (record { line = line; airport = airport; groups = caps })

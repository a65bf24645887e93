-- The rows of sol_itineraries.csv.
use Rattle.std.specs.Prelude.{ℕ, ◌%◌, ◌==◌, List, length, Result, Ok, Err, if◌then◌else◌}
use Rattle.file_rows.specs.declared.cause.Cause.{Cause}
use Rattle.file_rows.specs.declared.cause.Cause.TheVariants as causes
use Rattle.file_rows.specs.Limits.{most_bytes, most_passengers}
use Rattle.desk_text.specs.Fields.{name_of, number_of, inbound_of}
use Rattle.desk_text.specs.Rows.{◌>>=◌, RowOf, next_field, text_rows}
use Rattle.file_readers.specs.Itineraries.{legs_of}
use Rattle.file_readers.specs.declared.sol_row.PlannedGroup.{PlannedGroup}

-- the fields, where they are whole groups of three, or none
abbrev pub whole_groups : List (List ℕ) → Result (List (List ℕ)) Cause
whole_groups fields = if length fields % 3 == 0 then Ok fields else Err causes.Fields

-- RESERVATION TYPE COUNT, and FLIGHT DATE CABIN for each leg
unfoldable pub planned_group : RowOf PlannedGroup
planned_group line fields = do
  first ← next_field fields
  second ← next_field first.1
  third ← next_field second.1
  groups ← whole_groups third.1
  name ← name_of first.0
  inbound ← inbound_of second.0
  count ← number_of 1 most_passengers third.0
  legs ← legs_of groups
  Ok (record { line = line; name = name; inbound = inbound; count = count; legs = legs })

-- the rows of the file, or its first line that is refused
abbrev pub itinerary_rows : List ℕ → Result (List PlannedGroup) (ℕ × Cause)
itinerary_rows bytes = text_rows most_bytes planned_group bytes

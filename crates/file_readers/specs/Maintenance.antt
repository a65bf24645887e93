-- Maintenance, in one field.
use Rattle.std.specs.Prelude.{ℕ, Bool, List, Option, Some, None, ok_or, Result, Ok, Err, bytes_eq, codes, ◌==◌, if◌then◌else◌}
use Rattle.std.specs.List.{list_any, before_last, after_last}
use Rattle.file_rows.specs.declared.cause.Cause.{Cause}
use Rattle.file_rows.specs.declared.cause.Cause.TheVariants as causes
use Rattle.file_rows.specs.Bytes.{dash}
use Rattle.desk_text.specs.Fields.{name_of, number_of}
use Rattle.desk_text.specs.Rows.{◌>>=◌}
use Rattle.desk_text.specs.Moments.{moment_of}
use Rattle.file_rows.specs.declared.fleet.MaintRow.{MaintRow}

-- a dash
abbrev pub is_dash : ℕ → Bool
is_dash byte = byte == dash

-- the bytes before the last dash and those after it, where there is a dash
unfoldable pub cut_at_last_dash : List ℕ → Option (List ℕ × List ℕ)
cut_at_last_dash bytes = if list_any is_dash bytes then Some (before_last is_dash bytes, after_last is_dash bytes) else None

-- the last part and those before it; one part alone is not in the form
abbrev pub parts_of : List ℕ → Result (List ℕ × List ℕ) Cause
parts_of bytes = ok_or (cut_at_last_dash bytes) causes.Word

-- AIRPORT-DATE-TIME-DATE-TIME-MINUTES: the last five parts are the dates, the times and the minutes, and the airport is all before them
unfoldable pub maint_row : List ℕ → Result MaintRow Cause
maint_row field = do
  minutes ← parts_of field
  to_time ← parts_of minutes.0
  to_date ← parts_of to_time.0
  from_time ← parts_of to_date.0
  from_date ← parts_of from_time.0
  airport ← name_of from_date.0
  from ← moment_of from_date.1 from_time.1
  to ← moment_of to_date.1 to_time.1
  allowed ← number_of 0 100000 minutes.1
  Ok (record { airport = airport; from = from; to = to; minutes = allowed })

-- the maintenance, and that there is one
abbrev pub some_row : Result MaintRow Cause → Result (Option MaintRow) Cause
some_row (Ok row) = Ok (Some row)
some_row (Err cause) = Err cause

-- NULL, or a maintenance
unfoldable pub maint_of : List ℕ → Result (Option MaintRow) Cause
maint_of field = if bytes_eq field (codes "NULL") then Ok None else some_row (maint_row field)

-- Times of a day, and moments: a date and a time.
use Rattle.std.specs.Prelude.{ℕ, ◌+◌, ◌*◌, List, Option, Some, None, Result, Ok, Err}
use Rattle.desk_units.specs.declared.numbers.Minute.{Minute}
use Rattle.file_rows.specs.declared.cause.Cause.{Cause}
use Rattle.file_rows.specs.declared.cause.Cause.TheVariants as causes
use Rattle.desk_text.specs.Fields.{date_of, time_of}
use Rattle.desk_text.specs.Rows.{◌>>=◌}

-- a time that adds no days
abbrev pub without_days : ℕ × Option ℕ → Result ℕ Cause
without_days (minute, None) = Ok minute
without_days (minute, Some days) = Err causes.Time

-- the minute of the day that a time names, which adds no days
unfoldable pub minute_of : List ℕ → Result ℕ Cause
minute_of field = do
  time ← time_of field
  without_days time

-- the moment of a date and a time
unfoldable pub moment_of : List ℕ → List ℕ → Result Minute Cause
moment_of date time = do
  day ← date_of date
  minute ← minute_of time
  Ok (record { 0 = 1440 * day + minute })

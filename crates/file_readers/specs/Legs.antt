-- The rows of sol_rotations.csv.
use Rattle.std.specs.Prelude.{ℕ, List, [], ◌∷◌, Option, Some, None, Result, Ok, Err, bytes_eq, codes, if◌then◌else◌}
use Rattle.file_rows.specs.declared.cause.Cause.{Cause}
use Rattle.file_rows.specs.declared.cause.Cause.TheVariants as causes
use Rattle.file_rows.specs.Limits.{most_bytes}
use Rattle.desk_text.specs.Fields.{name_of, date_of}
use Rattle.desk_text.specs.Moments.{moment_of}
use Rattle.desk_text.specs.Rows.{◌>>=◌, RowOf, next_field, text_rows}
use Rattle.file_readers.specs.declared.sol_row.PlannedFlight.{PlannedFlight}
use Rattle.file_readers.specs.declared.sol_row.PlannedLeg.{PlannedLeg}

-- what comes after the third field: nothing, or a date and a time, and whatever follows them
abbrev pub departure_of : List (List ℕ) → Result (Option (List ℕ × List ℕ)) Cause
departure_of [] = Ok None
departure_of (date ∷ time ∷ others) = Ok (Some (date, time))
departure_of (date ∷ []) = Err causes.Fields

-- an aircraft that departs then, or the word `cancelled` where no departure stands
unfoldable pub flown_of : List ℕ → Option (List ℕ × List ℕ) → Result (Option PlannedFlight) Cause
flown_of field None = if bytes_eq field (codes "cancelled") then Ok None else Err causes.Word
flown_of field (Some departure) = do
  aircraft ← name_of field
  dep ← moment_of departure.0 departure.1
  Ok (Some (record { aircraft = aircraft; dep = dep }))

-- FLIGHT DATE cancelled, or FLIGHT DATE AIRCRAFT DATE TIME with any fields after them
unfoldable pub planned_leg : RowOf PlannedLeg
planned_leg line fields = do
  first ← next_field fields
  second ← next_field first.1
  third ← next_field second.1
  departure ← departure_of third.1
  flight ← name_of first.0
  day ← date_of second.0
  flown ← flown_of third.0 departure
  Ok (record { line = line; flight = flight; day = day; flown = flown })

-- the rows of the file, or its first line that is refused
abbrev pub rotation_rows : List ℕ → Result (List PlannedLeg) (ℕ × Cause)
rotation_rows bytes = text_rows most_bytes planned_leg bytes

-- The rows of the file of aircraft.
use Rattle.std.specs.Prelude.{ℕ, List, length, nat_le, Result, Ok, Err, if◌then◌else◌}
use Rattle.file_rows.specs.declared.cause.Cause.{Cause}
use Rattle.file_rows.specs.declared.cause.Cause.TheVariants as causes
use Rattle.desk_text.specs.Fields.{name_of, number_of, price_of, seats_of}
use Rattle.desk_text.specs.Rows.{◌>>=◌, RowOf, next_field}
use Rattle.file_rows.specs.declared.fleet.AircraftRow.{AircraftRow}
use Rattle.file_readers.specs.Maintenance.{maint_of}

-- what the first field spells, and the fields after it
abbrev pub next_as : {Value : Type 0} → (List ℕ → Result Value Cause) → List (List ℕ) → Result (Value × List (List ℕ)) Cause
next_as spells fields = do
  field ← next_field fields
  value ← spells field.0
  Ok (value, field.1)

-- AIRCRAFT MODEL FAMILY SEATS RANGE HOURLY TURN TRANSIT ORIGIN MAINTENANCE
unfoldable pub aircraft_of : RowOf AircraftRow
aircraft_of line fields = do
  name ← next_as name_of fields
  model ← next_as name_of name.1
  family ← next_as name_of model.1
  seats ← next_as seats_of family.1
  range ← next_as (number_of 0 100000) seats.1
  hourly ← next_as price_of range.1
  turnaround ← next_as (number_of 0 2880) hourly.1
  transit ← next_as (number_of 0 2880) turnaround.1
  origin ← next_as name_of transit.1
  maint ← next_as maint_of origin.1
  Ok (record { line = line; name = name.0; model = model.0; family = family.0; seats = seats.0; range = range.0; hourly = hourly.0; turnaround = turnaround.0; transit = transit.0; origin = origin.0; maint = maint.0 })

-- a line of at least ten fields; those after the tenth are passed over
unfoldable pub aircraft_row : RowOf AircraftRow
aircraft_row line fields = if nat_le 10 (length fields) then aircraft_of line fields else Err causes.Fields

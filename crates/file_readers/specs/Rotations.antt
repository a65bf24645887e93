-- The file of rotations.
use Rattle.std.specs.Prelude.{Ok}
use Rattle.desk_text.specs.Rows.{RowOf, ◌>>=◌, next_field}
use Rattle.desk_text.specs.Fields.{name_of, date_of}
use Rattle.file_rows.specs.declared.legs.RotationRow.{RotationRow}

-- flight, date, aircraft
unfoldable pub rotation_row : RowOf RotationRow
rotation_row line fields = do
  first ← next_field fields
  second ← next_field first.1
  third ← next_field second.1
  flight ← name_of first.0
  day ← date_of second.0
  aircraft ← name_of third.0
  Ok (record { line = line; flight = flight; day = day; aircraft = aircraft })

-- The file of distances.
use Rattle.std.specs.Prelude.{Ok}
use Rattle.desk_text.specs.Fields.{name_of, number_of, haul_of}
use Rattle.desk_text.specs.Rows.{◌>>=◌, RowOf, next_field}
use Rattle.file_rows.specs.declared.network.DistRow.{DistRow}

-- ORIGIN DESTINATION MINUTES TYPE
unfoldable pub dist_row : RowOf DistRow
dist_row line fields = do
  first ← next_field fields
  second ← next_field first.1
  third ← next_field second.1
  fourth ← next_field third.1
  origin ← name_of first.0
  dest ← name_of second.0
  minutes ← number_of 0 100000 third.0
  haul ← haul_of fourth.0
  Ok (record { line = line; origin = origin; dest = dest; minutes = minutes; haul = haul })

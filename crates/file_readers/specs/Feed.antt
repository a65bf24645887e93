-- The file of the feed: batches of orders, and the moments at which they become known.
use Rattle.std.specs.Prelude.{ℕ, List, ◌∷◌, length, Result, Ok, Err, bytes_eq, codes, ◌==◌, if◌then◌else◌}
use Rattle.file_rows.specs.declared.cause.Cause.{Cause}
use Rattle.file_rows.specs.declared.cause.Cause.TheVariants.{Word, Fields}
use Rattle.file_rows.specs.declared.disruptions.AltRow.{AltRow}
use Rattle.file_rows.specs.declared.disruptions.AltRow.TheVariants.{Nothing}
use Rattle.file_rows.specs.Limits.{most_bytes}
use Rattle.desk_text.specs.Fields.{number_of}
use Rattle.desk_text.specs.Rows.{◌>>=◌, RowOf}
use Rattle.comma_rows.specs.Records.{printed, comma_rows}
use Rattle.file_readers.specs.Orders.{flight_row, aircraft_row, airport_row, moment_row}
use Rattle.file_readers.specs.declared.feed.OrderKind.{OrderKind}
use Rattle.file_readers.specs.declared.feed.OrderKind.TheVariants as kinds

-- what a record is about, by its second word
abbrev pub kind_of : List ℕ → Result OrderKind Cause
kind_of word =
    if bytes_eq word (codes "flight") then Ok kinds.Flight else (
    if bytes_eq word (codes "aircraft") then Ok kinds.Aircraft else (
    if bytes_eq word (codes "airport") then Ok kinds.Airport else (
    if bytes_eq word (codes "none") then Ok kinds.Nothing else (
    if bytes_eq word (codes "at") then Ok kinds.At else Err Word))))

-- how many fields come after the word
abbrev pub width_of : OrderKind → ℕ
width_of kinds.Flight = 3
width_of kinds.Aircraft = 5
width_of kinds.Airport = 7
width_of kinds.Nothing = 0
width_of kinds.At = 2

-- these fields, where there are so many
abbrev pub exactly : ℕ → List (List ℕ) → Result (List (List ℕ)) Cause
exactly width fields = if length fields == width then Ok fields else Err Fields

-- what the fields after the word say: an order as in the text file of its kind, no order, or the moment of the batch
abbrev pub order_of : OrderKind → RowOf AltRow
order_of kinds.Flight line fields = flight_row line fields
order_of kinds.Aircraft line fields = aircraft_row line fields
order_of kinds.Airport line fields = airport_row line fields
order_of kinds.Nothing line fields = Ok (Nothing line)
order_of kinds.At line fields = moment_row line fields

-- BATCH WORD, and exactly the fields of the word; the batch is the first field from the left
unfoldable pub fed_row : RowOf (ℕ × AltRow)
fed_row line (number ∷ word ∷ others) = do
  kind ← kind_of word
  fields ← exactly (width_of kind) others
  batch ← number_of 1 999999999 number
  order ← order_of kind line fields
  Ok (batch, order)
fed_row line fields = Err Fields

-- the rows of the records of a text of at most 64 MiB, each with the number of its batch
unfoldable pub feed_rows : List ℕ → Result (List (ℕ × AltRow)) (ℕ × Cause)
feed_rows bytes = comma_rows most_bytes (printed fed_row) bytes

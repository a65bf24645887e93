-- The records of a comma file, and what their rows are.
use Rattle.std.specs.Prelude.{ℕ, ◌+◌, Bool, ◌&&◌, List, [], ◌∷◌, length, Result, Ok, Err, nat_le, if◌then◌else◌}
use Rattle.std.specs.List.{list_all}
use Rattle.csv.specs.Reading.{records, default_config, strip_bom}
use Rattle.file_rows.specs.declared.cause.Cause.{Cause}
use Rattle.file_rows.specs.declared.cause.Cause.TheVariants as causes
use Rattle.desk_text.specs.Rows.{◌>>=◌, RowOf, at_line}

-- the records that csv reads in a text with its default settings; a byte order mark at the start is dropped
abbrev pub text_records : List ℕ → List (List (List ℕ))
text_records bytes = records default_config (strip_bom bytes)

-- the bytes of a field: from 0x20 to 0x7e
abbrev pub is_printed : ℕ → Bool
is_printed byte = nat_le 32 byte && nat_le byte 126

-- whether each byte of each field may stand there
abbrev pub are_printed : List (List ℕ) → Bool
are_printed fields = list_all (list_all is_printed) fields

-- the row of a record all of whose bytes are tried first
abbrev pub printed : {Row : Type 0} → RowOf Row → RowOf Row
printed row line fields = if are_printed fields then row line fields else Err causes.Byte

-- the rows of records that are counted from n, or the first record that is refused
unfoldable pub rows_from : {Row : Type 0} → RowOf Row → ℕ → List (List (List ℕ)) → Result (List Row) (ℕ × Cause)
rows_from row n [] = Ok []
rows_from row n (fields ∷ records) = do
  first ← at_line n (row n fields)
  others ← rows_from row (n + 1) records
  Ok (first ∷ others)

-- the rows of the records of a text of at most `limit` bytes, counted from 1; a longer one is refused as a whole
unfoldable pub comma_rows : {Row : Type 0} → ℕ → RowOf Row → List ℕ → Result (List Row) (ℕ × Cause)
comma_rows limit row bytes = if nat_le (length bytes) limit then rows_from row 1 (text_records bytes) else Err (0, causes.Size)

-- How a field of a comma file is written.
use Rattle.std.specs.Prelude.{ℕ, Bool, ◌||◌, List, [], ◌∷◌, ◌++◌, ◌==◌, if◌then◌else◌}
use Rattle.std.specs.List.{flat_map, list_any}
use Rattle.file_rows.specs.Bytes.{comma, line_feed, carriage_return}

-- what stands before and after a field that is quoted
abbrev pub quote_mark : ℕ
quote_mark = 34

-- a comma, a quote mark, CR and LF: a field that has one of them is quoted
abbrev pub is_mark : ℕ → Bool
is_mark byte = (byte == comma) || (byte == quote_mark) || (byte == carriage_return) || (byte == line_feed)

-- a byte as it stands between quote marks: a quote mark twice
unfoldable pub doubled_byte : ℕ → List ℕ
doubled_byte byte = if byte == quote_mark then byte ∷ byte ∷ [] else byte ∷ []

-- bytes with each quote mark twice
abbrev pub doubled : List ℕ → List ℕ
doubled bytes = flat_map doubled_byte bytes

-- a field as it is written: as it stands, or between quote marks where it has a byte that calls for them
unfoldable pub quoted : List ℕ → List ℕ
quoted field = if list_any is_mark field then (quote_mark ∷ []) ++ doubled field ++ (quote_mark ∷ []) else field

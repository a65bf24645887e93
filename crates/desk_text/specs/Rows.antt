-- The rows of a text, one a line, or its first line that is refused, with the cause.
use Rattle.std.specs.Prelude.{◌≡◌, ℕ, List, [], ◌∷◌, length, Result, Ok, Err, nat_le, if◌then◌else◌}
use Rattle.std.specs.List.{list_all}
use Rattle.file_rows.specs.declared.cause.Cause.{Cause}
use Rattle.file_rows.specs.declared.cause.Cause.TheVariants as causes
use Rattle.desk_text.specs.declared.fault.ReadFault.{ReadFault}
use Rattle.desk_text.specs.declared.fault.ReadFault.TheVariants as read_fault
use Rattle.desk_text.specs.declared.fault.RowFault.{RowFault}
use Rattle.desk_text.specs.declared.fault.RowFault.TheVariants as row_fault
use Rattle.desk_text.specs.Lines.{is_text, fields, text_lines}

infixl 10 ◌>>=◌
-- what is read, and then what f reads of it; the first cause stands
abbrev pub ◌>>=◌ : {A B E : Type 0} → Result A E → (A → Result B E) → Result B E
(Ok x) >>= f = f x
(Err e) >>= f = Err e

-- the first field and the others, where there is one
abbrev pub next_field : List (List ℕ) → Result (List ℕ × List (List ℕ)) Cause
next_field (field ∷ others) = Ok (field, others)
next_field [] = Err causes.Fields

-- how the fields of a line with its number give a row, or why not
abbrev pub RowOf : Type 0 → Type 0
RowOf Row = ℕ → List (List ℕ) → Result Row Cause

-- the row of a line: each of its bytes may stand in a line, and its fields give the row
abbrev pub line_row : {Row : Type 0} → RowOf Row → ℕ → List ℕ → Result Row Cause
line_row row number line = if list_all is_text line then row number (fields line) else Err causes.Byte

-- a cause at this line
abbrev pub at_line : {A : Type 0} → ℕ → Result A Cause → Result A (ℕ × Cause)
at_line number (Ok x) = Ok x
at_line number (Err cause) = Err (number, cause)

-- the rows of these lines, or the first line that is refused
unfoldable pub rows_of_lines : {Row : Type 0} → RowOf Row → List (ℕ × List ℕ) → Result (List Row) (ℕ × Cause)
rows_of_lines row [] = Ok []
rows_of_lines row (line ∷ lines) = do
  first ← at_line line.0 (line_row row line.0 line.1)
  others ← rows_of_lines row lines
  Ok (first ∷ others)

-- the rows of a text of at most `limit` bytes; a longer one is refused as a whole
unfoldable pub text_rows : {Row : Type 0} → ℕ → RowOf Row → List ℕ → Result (List Row) (ℕ × Cause)
text_rows limit row bytes = if nat_le (length bytes) limit then rows_of_lines row (text_lines bytes) else Err (0, causes.Size)

-- a line gives this row, or is refused with this cause; out of memory may come at any time
abbrev pub GivesRow : {Row : Type 0} → Result Row RowFault → Result Row Cause → Type 0
GivesRow (Ok x) read = read ≡ Ok x
GivesRow (Err (row_fault.Refused cause)) read = read ≡ Err cause
GivesRow (Err row_fault.Memory) read = Unit {0}

-- a reader gives this value, or refuses that line with that cause; out of memory may come at any time
abbrev pub Gives : {Answer Value : Type 0} → (Answer → Value) → Result Answer ReadFault → Result Value (ℕ × Cause) → Type 0
Gives value (Ok answer) read = read ≡ Ok (value answer)
Gives value (Err (read_fault.Refused line cause)) read = read ≡ Err (line, cause)
Gives value (Err read_fault.Memory) read = Unit {0}

-- the fault of a line that gave no row
abbrev pub fault_at : ℕ → RowFault → ReadFault
fault_at line (row_fault.Refused cause) = read_fault.Refused line cause
fault_at line row_fault.Memory = read_fault.Memory

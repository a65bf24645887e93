-- The file of the window.
use Rattle.std.specs.Prelude.{ℕ, List, [], ◌∷◌, length, Result, Ok, Err, nat_le, if◌then◌else◌}
use Rattle.file_rows.specs.declared.cause.Cause.{Cause}
use Rattle.file_rows.specs.declared.cause.Cause.TheVariants as causes
use Rattle.file_rows.specs.Limits.{most_bytes}
use Rattle.desk_text.specs.Lines.{text_lines}
use Rattle.desk_text.specs.Moments.{moment_of}
use Rattle.desk_text.specs.Rows.{◌>>=◌, RowOf, next_field, line_row, at_line}
use Rattle.file_rows.specs.declared.network.Window.{Window}

-- DATE TIME DATE TIME
unfoldable pub window_row : RowOf Window
window_row line fields = do
  first_day ← next_field fields
  first_time ← next_field first_day.1
  last_day ← next_field first_time.1
  last_time ← next_field last_day.1
  from ← moment_of first_day.0 first_time.0
  to ← moment_of last_day.0 last_time.0
  Ok (record { from = from; to = to; line = line })

-- the window of the first of these lines
abbrev pub first_window : List (ℕ × List ℕ) → Result Window (ℕ × Cause)
first_window [] = Err (0, causes.Fields)
first_window (line ∷ lines) = at_line line.0 (line_row window_row line.0 line.1)

-- the window of a text: that of its first line with fields, whatever follows; a text of too many bytes is refused as a whole
abbrev pub config_of : List ℕ → Result Window (ℕ × Cause)
config_of bytes = if nat_le (length bytes) most_bytes then first_window (text_lines bytes) else Err (0, causes.Size)

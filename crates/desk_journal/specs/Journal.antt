-- The records of journal.csv, and what their rows are.
use Rattle.std.specs.Prelude.{ℕ, List, [], ◌∷◌, Result, Ok, Err, bytes_eq, codes, if◌then◌else◌}
use Rattle.file_rows.specs.declared.cause.Cause.{Cause}
use Rattle.file_rows.specs.declared.cause.Cause.TheVariants as causes
use Rattle.file_rows.specs.Limits.{most_journal_bytes}
use Rattle.desk_text.specs.Lines.{fields as tokens_of}
use Rattle.desk_text.specs.Fields.{name_of, number_of, date_of}
use Rattle.desk_text.specs.Moments.{minute_of}
use Rattle.desk_text.specs.Rows.{◌>>=◌, RowOf}
use Rattle.comma_rows.specs.Records.{are_printed, comma_rows}
use Rattle.desk_journal.specs.declared.rows.NamedEvent.{NamedEvent}
use Rattle.desk_journal.specs.declared.rows.NamedEvent.TheVariants.{Batch, Move}
use Rattle.desk_journal.specs.declared.rows.JournalRow.{JournalRow}
use Rattle.desk_journal.specs.Tokens.{TokenReaders}
use Rattle.desk_journal.specs.Steps.{steps_of}

-- ---- events

-- names, dates and times as the text files have them; no time adds days
abbrev pub full_tokens : TokenReaders
full_tokens = record { name_of = name_of; date_of = date_of; time_of = minute_of }

-- the batch whose number, 0 to 1,000, the detail spells
unfoldable pub batch_of : List ℕ → Result NamedEvent Cause
batch_of detail = do
  number ← number_of 0 1000 detail
  Ok (Batch number)

-- the move whose steps the detail spells; runs of spaces stand between tokens
unfoldable pub move_of : List ℕ → Result NamedEvent Cause
move_of detail = do
  steps ← steps_of full_tokens (tokens_of detail)
  Ok (Move steps)

-- what an event's word makes of its detail: the word is 'batch' or 'move'
unfoldable pub event_of : List ℕ → List ℕ → Result NamedEvent Cause
event_of word detail =
    if bytes_eq word (codes "batch") then batch_of detail else (
    if bytes_eq word (codes "move") then move_of detail else Err causes.Word)

-- ---- records

-- CALLER,EVENT,DETAIL: the caller is a number from 0 to 64
unfoldable pub asked_row : ℕ → List ℕ → List ℕ → List ℕ → Result JournalRow Cause
asked_row line caller word detail = do
  caller ← number_of 0 64 caller
  event ← event_of word detail
  Ok (record { line = line; caller = caller; event = event })

-- three fields, or four of which the last is passed over
unfoldable pub record_row : RowOf JournalRow
record_row line (caller ∷ word ∷ detail ∷ []) = asked_row line caller word detail
record_row line (caller ∷ word ∷ detail ∷ reply ∷ []) = asked_row line caller word detail
record_row line fields = Err causes.Fields

-- the fields whose bytes are looked at: all but the fourth
unfoldable pub looked_at : List (List ℕ) → List (List ℕ)
looked_at (caller ∷ word ∷ detail ∷ reply ∷ others) = caller ∷ word ∷ detail ∷ others
looked_at fields = fields

-- the row of a record: first of all the bytes that are looked at are from 0x20 to 0x7e
unfoldable pub journal_row : RowOf JournalRow
journal_row line fields = if are_printed (looked_at fields) then record_row line fields else Err causes.Byte

-- the rows of the records of a text of at most 256 MiB
unfoldable pub journal_rows_of : List ℕ → Result (List JournalRow) (ℕ × Cause)
journal_rows_of bytes = comma_rows most_journal_bytes journal_row bytes

-- The numbers of the rows of a journal that was read.
use Rattle.std.proofs.Common.{◌≡◌, ℕ, ◌+◌, Bool, true, false, List, [], ◌∷◌, subst}
use Rattle.std.specs.Prelude.{Result, Ok, Err, bytes_eq, codes, if◌then◌else◌, nat_le, length}
use Rattle.std.specs.List.{AllByRecursion}
use Rattle.file_rows.specs.declared.cause.Cause.{Cause}
use Rattle.file_rows.specs.declared.cause.Cause.TheVariants as causes
use Rattle.file_rows.specs.Limits.{most_journal_bytes}
use Rattle.desk_text.specs.Lines.{fields as tokens_of}
use Rattle.desk_text.specs.Fields.{number_of}
use Rattle.desk_text.specs.Rows.{◌>>=◌, at_line}
use Rattle.comma_rows.specs.Records.{are_printed, comma_rows, rows_from, text_records}
use Rattle.desk_journal.specs.declared.rows.JournalRow.{JournalRow}
use Rattle.desk_journal.specs.declared.rows.NamedEvent.{NamedEvent}
use Rattle.desk_journal.specs.declared.rows.NamedEvent.TheVariants.{Batch, Move}
use Rattle.desk_journal.specs.Steps.{steps_of}
use Rattle.desk_journal.specs.Journal.{full_tokens, batch_of, move_of, event_of, asked_row, record_row, looked_at, journal_row, journal_rows_of}
use Rattle.desk_top.specs.Due.{IsFew, IsNumbered, IsShort}
use Rattle.desk_top.proofs.Parts.{bound, same_Ok, at_line-Ok, number_of-within}
use Rattle.desk_top.proofs.Gives.{at_ok}
use Rattle.desk_top.proofs.Steps.{steps_short}

-- ---- an event

batch_few : (detail : List ℕ) (e : NamedEvent) → batch_of detail ≡ Ok e → IsFew e
unfolding batch_of
batch_few detail e h =
    let n = bound (number_of 0 1000 detail) (λ number. Ok (Batch number)) e h in
    subst IsFew (same_Ok (Batch n.0) e n.2) (number_of-within 0 1000 detail n.0 n.1).1

move_few : (detail : List ℕ) (e : NamedEvent) → move_of detail ≡ Ok e → IsFew e
unfolding move_of
move_few detail e h =
    let steps = bound (steps_of full_tokens (tokens_of detail)) (λ steps. Ok (Move steps)) e h in
    subst IsFew (same_Ok (Move steps.0) e steps.2) (at_ok (AllByRecursion IsShort) (steps_of full_tokens (tokens_of detail)) steps.0 steps.1 (steps_short full_tokens (tokens_of detail)))

worded : (a b : Bool) (batch move : Result NamedEvent Cause) (e : NamedEvent) → (batch ≡ Ok e → IsFew e) → (move ≡ Ok e → IsFew e)
    → (if a then batch else (if b then move else Err causes.Word)) ≡ Ok e → IsFew e
worded true b batch move e first second h = first h
worded false true batch move e first second h = second h
worded false false batch move e first second h = absurd cc

event_few : (word detail : List ℕ) (e : NamedEvent) → event_of word detail ≡ Ok e → IsFew e
unfolding event_of
event_few word detail e h = worded (bytes_eq word (codes "batch")) (bytes_eq word (codes "move")) (batch_of detail) (move_of detail) e (batch_few detail e) (move_few detail e) h

-- ---- a row

abbrev row_with : ℕ → ℕ → NamedEvent → JournalRow
row_with line caller e = record { line = line; caller = caller; event = e }

asked_numbered : (line : ℕ) (caller word detail : List ℕ) (row : JournalRow) → asked_row line caller word detail ≡ Ok row → IsNumbered row
unfolding asked_row
asked_numbered line caller word detail row h =
    let n = bound (number_of 0 64 caller) (λ n. event_of word detail >>= λ e. Ok (row_with line n e)) row h in
    let e = bound (event_of word detail) (λ e. Ok (row_with line n.0 e)) row n.2 in
    subst IsNumbered (same_Ok (row_with line n.0 e.0) row e.2) ((number_of-within 0 64 caller n.0 n.1).1, event_few word detail e.0 e.1)

record_numbered : (line : ℕ) (fields : List (List ℕ)) (row : JournalRow) → record_row line fields ≡ Ok row → IsNumbered row
unfolding record_row
record_numbered line [] row h = absurd cc
record_numbered line (a ∷ []) row h = absurd cc
record_numbered line (a ∷ b ∷ []) row h = absurd cc
record_numbered line (a ∷ b ∷ c ∷ []) row h = asked_numbered line a b c row h
record_numbered line (a ∷ b ∷ c ∷ d ∷ []) row h = asked_numbered line a b c row h
record_numbered line (a ∷ b ∷ c ∷ d ∷ e ∷ more) row h = absurd cc

where_printed : (b : Bool) (r : Result JournalRow Cause) (row : JournalRow) → (if b then r else Err causes.Byte) ≡ Ok row → r ≡ Ok row
where_printed true r row h = h
where_printed false r row h = absurd cc

row_numbered : (line : ℕ) (fields : List (List ℕ)) (row : JournalRow) → journal_row line fields ≡ Ok row → IsNumbered row
unfolding journal_row
row_numbered line fields row h = record_numbered line fields row (where_printed (are_printed (looked_at fields)) (record_row line fields) row h)

-- ---- all of them

rows_numbered : (n : ℕ) (records : List (List (List ℕ))) (rows : List JournalRow) → rows_from journal_row n records ≡ Ok rows → AllByRecursion IsNumbered rows
unfolding rows_from
rows_numbered n [] rows h = subst (AllByRecursion IsNumbered) (same_Ok [] rows h) tt
rows_numbered n (fields ∷ records) rows h =
    let first = bound (at_line n (journal_row n fields)) (λ first. rows_from journal_row (n + 1) records >>= λ others. Ok (first ∷ others)) rows h in
    let others = bound (rows_from journal_row (n + 1) records) (λ others. Ok (first.0 ∷ others)) rows first.2 in
    subst (AllByRecursion IsNumbered) (same_Ok (first.0 ∷ others.0) rows others.2)
    (row_numbered n fields first.0 (at_line-Ok n (journal_row n fields) first.0 first.1), rows_numbered (n + 1) records others.0 others.1)

where_small : (b : Bool) (r : Result (List JournalRow) (ℕ × Cause)) (rows : List JournalRow) → (if b then r else Err (0, causes.Size)) ≡ Ok rows → r ≡ Ok rows
where_small true r rows h = h
where_small false r rows h = absurd cc

pub journal_numbered : (bytes : List ℕ) (rows : List JournalRow) → journal_rows_of bytes ≡ Ok rows → AllByRecursion IsNumbered rows
unfolding journal_rows_of comma_rows
journal_numbered bytes rows h = rows_numbered 1 (text_records bytes) rows (where_small (nat_le (length bytes) most_journal_bytes) (rows_from journal_row 1 (text_records bytes)) rows h)

-- The rows of a journal, as a loop joins them.
use Rattle.std.proofs.Common.{◌≡◌, ℕ, ◌+◌, ◌<◌, ◌≤◌, Bool, true, false, cond, List, length, take, drop, get_or, Result, Ok, Err, refl, sym, ap, subst, ◌∙◌, arith}
use Rattle.std.proofs.lemmas.List.{length-take}
use Rattle.std.proofs.lemmas.List.Sums.{count_by-le-length, count_by_more_no, count_by_more_yes}
use Rattle.day_orders.specs.declared.orders.Batch.{Batch}
use Rattle.file_rows.specs.declared.cause.Cause.{Cause}
use Rattle.desk_text.specs.declared.fault.RowFault.{RowFault}
use Rattle.desk_text.specs.declared.fault.RowFault.TheVariants as row_fault
use Rattle.desk_text.specs.Rows.{◌>>=◌, at_line, GivesRow}
use Rattle.desk_data.specs.Situation.{Situation}
use Rattle.desk_model.specs.declared.answer.Event.{Event}
use Rattle.desk_build.specs.declared.fault.BuildFault.{BuildFault}
use Rattle.desk_journal.specs.declared.rows.JournalRow.{JournalRow}
use Rattle.file_joins.specs.Join.{all_after, is_batch, batches_in, event_of, asked_of}
use Rattle.file_joins.specs.Gives.{JoinGives, fault_at}
use Rattle.file_joins.proofs.AllOf.{prepended}
use Rattle.file_joins.proofs.AllAfter.{refused}

-- ---- the batch that is due

count_with : (rows : List JournalRow) (k : ℕ) (row : JournalRow) (b : Bool) → k < length rows → is_batch (get_or rows k row).event ≡ b → cond b (batches_in (take k rows) + 1) (batches_in (take k rows)) ≡ batches_in (take (k + 1) rows)
count_with rows k row true below is = sym (count_by_more_yes (λ (r : JournalRow). is_batch r.event) rows k row below is)
count_with rows k row false below is = sym (count_by_more_no (λ (r : JournalRow). is_batch r.event) rows k row below is)

-- after a batch the next one is due, and after a move the same one
pub due_next : (rows : List JournalRow) (k : ℕ) (row : JournalRow) (due next : ℕ) → k < length rows → row ≡ get_or rows k row → due ≡ batches_in (take k rows) → next ≡ cond (is_batch row.event) (due + 1) due → next ≡ batches_in (take (k + 1) rows)
due_next rows k row due next below is so_far step =
    step ∙ ap (λ (n : ℕ). cond (is_batch row.event) (n + 1) n) so_far
    ∙ count_with rows k row (is_batch row.event) below (ap (λ (r : JournalRow). is_batch r.event) (sym is))

-- no more batches than rows are due
pub due_within : (rows : List JournalRow) (k due : ℕ) → due ≡ batches_in (take k rows) → due ≤ length rows
due_within rows k due so_far = omega (arith, so_far, count_by-le-length (λ (r : JournalRow). is_batch r.event) (take k rows), length-take k rows)

-- ---- rows

module _ (I : Situation) (batches : List Batch) (due : ℕ) (before : List JournalRow) (row : JournalRow) (is_due : due ≡ batches_in before) where
  -- a row that gives an event
  pub row_gives : (e : Event) → event_of I batches due row.event ≡ Ok e → asked_of I batches before row ≡ Ok (row.caller, e)
  unfolding asked_of
  row_gives e h = ap (λ (n : ℕ). at_line row.line (event_of I batches n row.event) >>= λ asked. Ok (row.caller, asked)) (sym is_due)
      ∙ ap (λ (r : Result Event Cause). at_line row.line r >>= λ asked. Ok (row.caller, asked)) h

  row_refused : (why : Cause) → event_of I batches due row.event ≡ Err why → asked_of I batches before row ≡ Err (row.line, why)
  unfolding asked_of
  row_refused why h = ap (λ (n : ℕ). at_line row.line (event_of I batches n row.event) >>= λ asked. Ok (row.caller, asked)) (sym is_due)
      ∙ ap (λ (r : Result Event Cause). at_line row.line r >>= λ asked. Ok (row.caller, asked)) h

-- a row that gives none ends the join
pub row_stops : {Answer : Type 0} (view : Answer → List (ℕ × Event)) (I : Situation) (batches : List Batch) (rows : List JournalRow) (done : List (ℕ × Event)) (k due : ℕ) (row : JournalRow) (total : Result (List (ℕ × Event)) (ℕ × Cause)) (fault : RowFault) (end : BuildFault)
    → k < length rows → row ≡ get_or rows k row → due ≡ batches_in (take k rows) → GivesRow {Row = Event} (Err fault) (event_of I batches due row.event) → end ≡ fault_at row.line fault
    → prepended done (all_after (asked_of I batches) (take k rows) (drop k rows)) ≡ total → JoinGives view (Err end) total
row_stops view I batches rows done k due row total (row_fault.Refused why) end below is is_due gives given so_far =
    subst (λ (f : BuildFault). JoinGives view (Err f) total) (sym given) (refused (asked_of I batches) rows done k row (row.line, why) total below is (row_refused I batches due (take k rows) row is_due why gives) so_far, refl)
row_stops view I batches rows done k due row total row_fault.Memory end below is is_due gives given so_far = subst (λ (f : BuildFault). JoinGives view (Err f) total) (sym given) tt

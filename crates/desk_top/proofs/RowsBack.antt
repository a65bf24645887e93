-- The lines of a journal are read as the rows of its entries.
use Rattle.std.proofs.Common.{◌≡◌, ℕ, suc, ◌+◌, ◌<◌, ◌≤◌, true, leb, List, [], ◌∷◌, length, map, take, get_or, Some, Ok, refl, sym, subst, arith}
use Rattle.std.specs.Prelude.{All, decimal, slice_get}
use Rattle.std.specs.List.{AllByRecursion, enumerate_from, flat_map, list_all}
use Rattle.std.proofs.lemmas.Bool.{le-leb, and_from}
use Rattle.std.proofs.lemmas.Option.{slice_get_within, slice_get-get_or}
use Rattle.std.proofs.lemmas.List.Elements.{recursion_from_All}
use Rattle.file_rows.specs.Limits.{most_journal_bytes}
use Rattle.day_orders.specs.declared.orders.Batch.{Batch}
use Rattle.desk_data.specs.Situation.{Situation}
use Rattle.plan_moves.specs.Fits.{StepFits}
use Rattle.desk_model.specs.declared.answer.Entry.{Entry}
use Rattle.desk_model.specs.declared.answer.Event.{Event}
use Rattle.desk_model.specs.declared.answer.Event.TheVariants as event
use Rattle.desk_model.specs.States.{opening}
use Rattle.desk_model.specs.Histories.{state, IsAskable, IsLegal}
use Rattle.desk_model.proofs.HistoryLaws.{state-parts, askable-parts}
use Rattle.comma_rows.specs.Records.{is_printed, are_printed, comma_rows, rows_from}
use Rattle.desk_journal.specs.Journal.{batch_of, move_of, event_of, asked_row, record_row, looked_at, journal_row, journal_rows_of}
use Rattle.output_texts.specs.Lines.{kind_text, detail_text, move_text, batches, line_at, journal_text}
use Rattle.desk_top.specs.Named.{fields_at, named_event, row_at, rows_of_history, TakesInOrder}
use Rattle.desk_top.proofs.Spelled.{number_back, decimal_seen}
use Rattle.desk_top.proofs.Spells.{seen_printed}
use Rattle.desk_top.proofs.StepsBack.{IsReadable, move_reads}
use Rattle.desk_top.proofs.QuotedBack.{placed_fields, HaveCallers, records_of_lines}

-- an event whose text can be read, a batch having this number
abbrev pub EventReads : Situation → ℕ → Event → Type 0
EventReads I number (event.Batch batch) = number ≤ 1000
EventReads I number (event.Move m) = (1 ≤ length m.steps) × AllByRecursion (StepFits I) m.steps

pub record EntryReads (I : Situation) (number : ℕ) (entry : Entry) : Type 0 where
  pub caller : entry.caller ≤ 64
  pub event : EventReads I number entry.event

-- entries at their places that can be read
abbrev pub AllRead : Situation → List Entry → List (ℕ × Entry) → Type 0
AllRead I h placed = AllByRecursion (λ p. EntryReads I (batches (take p.0 h)) p.1) placed

module _ (I : Situation) (ok : IsReadable I) where
  detail_printed : (number : ℕ) (e : Event) → EventReads I number e → list_all is_printed (detail_text I number e) ≡ true
  unfolding detail_text move_text
  detail_printed number (event.Batch batch) h = seen_printed (decimal number) (decimal_seen number (omega (arith, h)))
  detail_printed number (event.Move m) h = (move_reads I ok m.steps h.0 h.1).spelled.printed

  event_back : (number : ℕ) (e : Event) → EventReads I number e → event_of (kind_text e) (detail_text I number e) ≡ Ok (named_event I number e)
  unfolding event_of batch_of move_of kind_text detail_text move_text
  event_back number (event.Batch batch) h = rw (number_back 0 1000 number (omega arith) h (omega arith)) refl
  event_back number (event.Move m) h =
      let move = move_reads I ok m.steps h.0 h.1 in
      rw (move.spelled.ends, move.read) refl

  kind_printed : (e : Event) → list_all is_printed (kind_text e) ≡ true
  unfolding kind_text
  kind_printed (event.Batch batch) = refl
  kind_printed (event.Move m) = refl

  -- the fields of a line are read as the row
  row_back : (line number : ℕ) (entry : Entry) → EntryReads I number entry → journal_row line (fields_at I number entry) ≡ Ok (record { line = line; caller = entry.caller; event = named_event I number entry.event })
  unfolding journal_row record_row looked_at asked_row
  row_back line number entry h =
      let caller = seen_printed (decimal entry.caller) (decimal_seen entry.caller (omega (arith, h.caller))) in
      let printed : are_printed (decimal entry.caller ∷ kind_text entry.event ∷ detail_text I number entry.event ∷ []) ≡ true =
      and_from _ _ caller (and_from _ _ (kind_printed entry.event) (and_from _ _ (detail_printed number entry.event h.event) refl)) in
      rw (printed, number_back 0 64 entry.caller (omega arith) h.caller (omega arith), event_back number entry.event h.event) refl

  rows_back : (h : List Entry) (k : ℕ) (es : List Entry) → AllRead I h (enumerate_from k es) → rows_from journal_row (k + 1) (map (placed_fields I h) (enumerate_from k es)) ≡ Ok (map (row_at I h) (enumerate_from k es))
  unfolding rows_from
  rows_back h k [] reads = refl
  rows_back h k (e ∷ es) reads = rw (row_back (k + 1) (batches (take k h)) e reads.0, rows_back h (k + 1) es reads.1) refl

  callers_of : (h : List Entry) (placed : List (ℕ × Entry)) → AllRead I h placed → HaveCallers placed
  callers_of h [] reads = tt
  callers_of h (p ∷ placed) reads = (reads.0.caller, callers_of h placed reads.1)

  -- a journal within the limit is read as its rows
  pub journal_back : (h : List Entry) → AllRead I h (enumerate_from 0 h) → length (journal_text I h) ≤ most_journal_bytes → journal_rows_of (journal_text I h) ≡ Ok (rows_of_history I h)
  unfolding journal_rows_of comma_rows journal_text rows_of_history
  journal_back h reads small =
      let records = records_of_lines I h (enumerate_from 0 h) (callers_of h (enumerate_from 0 h) reads) in
      let few : leb (length (flat_map (line_at I h) (enumerate_from 0 h))) most_journal_bytes ≡ true = le-leb _ _ small in
      rw (few, records) (rows_back h 0 h reads)

-- ---- legal histories

all_placed : {X : Type 0} (P : ℕ × X → Type 0) (n : ℕ) (xs : List X) → ((i : ℕ) (d : X) → i < length xs → P (n + i, get_or xs i d)) → AllByRecursion P (enumerate_from n xs)
all_placed P n [] each = tt
all_placed P n (x ∷ xs) each =
    let first : n + 0 ≡ n = omega arith in (
      subst (λ (k : ℕ). P (k, x)) first (each 0 x (omega arith)),
      all_placed P (n + 1) xs (λ i d lt. let later : n + suc i ≡ n + 1 + i = omega arith in subst (λ (k : ℕ). P (k, get_or xs i d)) later (each (suc i) d (omega arith))),
    )

module _ (I : Situation) (feed : List Batch) (h : List Entry) (legal : IsLegal (opening I) h) (order : TakesInOrder feed h) (few : length feed ≤ 1001) where
  event_reads : (i : ℕ) (entry : Entry) (e : Event) → slice_get h i ≡ Some entry → entry.event ≡ e → IsAskable I e → EventReads I (batches (take i h)) e
  event_reads i entry (event.Batch batch) at is asked =
      let there = slice_get_within feed (batches (take i h)) batch (order i entry batch at is) in
      omega (arith, there)
  event_reads i entry (event.Move m) at is asked = (asked.some, recursion_from_All (StepFits I) m.steps asked.each)

  -- each entry of a legal history can be read
  pub legal_reads : All (λ entry. entry.caller ≤ 64) h → AllRead I h (enumerate_from 0 h)
  unfolding opening
  legal_reads callers =
      all_placed (λ p. EntryReads I (batches (take p.0 h)) p.1) 0 h
      (λ i d lt.
      let entry = get_or h i d in
      let at = slice_get-get_or h i d lt in
      let stands = legal i entry at in
      let S = state (opening I) (take i h) in
      let asked = askable-parts S.inst I entry.event (state-parts (opening I) (take i h)) stands.asked in
      let same : 0 + i ≡ i = omega arith in
      subst (λ (k : ℕ). EntryReads I (batches (take k h)) entry) (sym same) (record { caller = callers i d lt; event = event_reads i entry entry.event at refl asked }))

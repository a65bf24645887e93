-- The rows of a legal history give its events, and the run of these is the history.
use Rattle.std.proofs.Common.{◌≡◌, ℕ, ◌+◌, Bool, cond, List, [], ◌∷◌, ◌++◌, length, map, take, Some, Ok, refl, sym, ap, subst, ◌∙◌, arith, append_assoc, length-append}
use Rattle.std.specs.Prelude.{slice_get}
use Rattle.std.specs.List.{enumerate_from}
use Rattle.std.proofs.lemmas.Bool.{eq-eqb}
use Rattle.std.proofs.lemmas.List.{map-append}
use Rattle.std.proofs.lemmas.List.Sums.{sum_by-cons}
use Rattle.day_orders.specs.declared.orders.Batch.{Batch}
use Rattle.desk_data.specs.Situation.{Situation}
use Rattle.desk_data.specs.Valid.{AreDistinct}
use Rattle.desk_model.specs.declared.answer.Answer.{Answer}
use Rattle.desk_model.specs.declared.answer.Event.{Event}
use Rattle.desk_model.specs.declared.answer.Event.TheVariants as event
use Rattle.desk_model.specs.declared.answer.Entry.{Entry}
use Rattle.desk_model.specs.States.{State, opening, after}
use Rattle.desk_model.specs.Histories.{state, IsAskable, Stands, IsLegal, is_batch, entry_of, entries, run}
use Rattle.desk_model.proofs.HistoryLaws.{state-append, state-parts, askable-parts}
use Rattle.desk_journal.specs.declared.rows.JournalRow.{JournalRow}
use Rattle.file_joins.specs.Join.{all_after, is_batch as is_named_batch, batches_in, batch_of, stated_batch, event_of, asked_of}
use Rattle.output_texts.specs.Lines.{batches}
use Rattle.output_texts.proofs.LineLemmas.{enumerate-append}
use Rattle.desk_top.specs.Named.{named_event, row_at, rows_of_history, asked, TakesInOrder}
use Rattle.desk_top.proofs.JoinBack.{move_back}

-- ---- the entry after some others

there : (done more : List Entry) (e : Entry) → slice_get (done ++ e ∷ more) (length done) ≡ Some e
there [] more e = refl
there (x ∷ done) more e = there done more e

take_done : (done more : List Entry) → take (length done) (done ++ more) ≡ done
take_done [] more = refl
take_done (x ∷ done) more = ap (λ es. x ∷ es) (take_done done more)

-- ---- batches among rows

named_batch : (I : Situation) (number : ℕ) (e : Event) → is_named_batch (named_event I number e) ≡ is_batch e
named_batch I number (event.Batch batch) = refl
named_batch I number (event.Move m) = refl

-- as many rows as entries are batches
count_rows : (I : Situation) (h : List Entry) (k : ℕ) (es : List Entry) → batches_in (map (row_at I h) (enumerate_from k es)) ≡ batches es
count_rows I h k [] = refl
count_rows I h k (e ∷ es) =
    let number = batches (take k h) in
    let here : cond {A = ℕ} (is_named_batch (named_event I number e.event)) 1 0 ≡ cond {A = ℕ} (is_batch e.event) 1 0 = ap (λ (b : Bool). cond {A = ℕ} b 1 0) (named_batch I number e.event) in
    omega (
      arith,
      sum_by-cons (λ (row : JournalRow). cond {A = ℕ} (is_named_batch row.event) 1 0) (row_at I h (k, e)) (map (row_at I h) (enumerate_from (k + 1) es)),
      sum_by-cons (λ (entry : Entry). cond {A = ℕ} (is_batch entry.event) 1 0) e es,
      here,
      count_rows I h (k + 1) es,
    )

-- ---- events

module _ (I : Situation) (distinct : AreDistinct I.parts) (feed : List Batch) where
  event_joined : (due number : ℕ) (e : Event) → number ≡ due → ((batch : Batch) → e ≡ event.Batch batch → slice_get feed number ≡ Some batch) → IsAskable I e → event_of I feed due (named_event I number e) ≡ Ok e
  unfolding stated_batch batch_of
  event_joined due number (event.Batch batch) same order asked = rw (eq-eqb number due same, order batch refl) refl
  event_joined due number (event.Move m) same order asked = move_back I distinct m asked

  module _ (h : List Entry) (legal : IsLegal (opening I) h) (order : TakesInOrder feed h) where
    abbrev rows : ℕ → List Entry → List JournalRow
    rows k es = map (row_at I h) (enumerate_from k es)

    one_row_more : (done : List Entry) (e : Entry) → rows 0 done ++ row_at I h (length done, e) ∷ [] ≡ rows 0 (done ++ e ∷ [])
    one_row_more done e =
        let place : 0 + length done ≡ length done = omega arith in
        sym (ap (map (row_at I h)) (enumerate-append 0 done (e ∷ []))
        ∙ ap (λ (k : ℕ). map (row_at I h) (enumerate_from 0 done ++ (k, e) ∷ [])) place
        ∙ map-append (row_at I h) (enumerate_from 0 done) ((length done, e) ∷ []))

    first_event : (done more : List Entry) (e : Entry) → done ++ e ∷ more ≡ h → asked_of I feed (rows 0 done) (row_at I h (length done, e)) ≡ Ok (asked e)
    unfolding asked_of opening
    first_event done more e whole =
        let i = length done in
        let at : slice_get h i ≡ Some e = subst (λ (es : List Entry). slice_get es i ≡ Some e) whole (there done more e) in
        let before : take i h ≡ done = subst (λ (es : List Entry). take i es ≡ done) whole (take_done done (e ∷ more)) in
        let same : batches (take i h) ≡ batches_in (rows 0 done) = ap batches before ∙ sym (count_rows I h 0 done) in
        let S = state (opening I) (take i h) in
        let can = askable-parts S.inst I e.event (state-parts (opening I) (take i h)) (legal i e at).asked in
        let joined = event_joined (batches_in (rows 0 done)) (batches (take i h)) e.event same (λ batch is. order i e batch at is) can in
        rw joined refl

    later_back : (done more : List Entry) → done ++ more ≡ h → all_after (asked_of I feed) (rows 0 done) (rows (length done) more) ≡ Ok (map asked more)
    unfolding all_after
    later_back done [] whole = refl
    later_back done (e ∷ more) whole =
        let f = asked_of I feed in
        let count : length done + 1 ≡ length (done ++ e ∷ []) = sym (length-append done (e ∷ [])) in
        let rest : all_after f (rows 0 done ++ row_at I h (length done, e) ∷ []) (rows (length done + 1) more) ≡ Ok (map asked more) =
        ap (λ (before : List JournalRow). all_after f before (rows (length done + 1) more)) (one_row_more done e)
        ∙ ap (λ (k : ℕ). all_after f (rows 0 (done ++ e ∷ [])) (rows k more)) count
        ∙ later_back (done ++ e ∷ []) more (append_assoc done (e ∷ []) more ∙ whole) in
        rw (first_event done more e whole, rest) refl

    -- the rows of the history give its events
    pub events_back : all_after (asked_of I feed) [] (rows_of_history I h) ≡ Ok (map asked h)
    unfolding rows_of_history
    events_back = later_back [] h refl

-- ---- runs

run_after : (S : State) (done more : List Entry) → IsLegal S (done ++ more) → entries (length done) (state S done) (map asked more) ≡ more
unfolding entries
run_after S done [] legal = refl
run_after S done (e ∷ more) legal =
    let stands : Stands S done e = subst (λ (before : List Entry). Stands S before e) (take_done done (e ∷ more)) (legal (length done) e (there done more e)) in
    let entry : entry_of (state S done) e.caller e.event ≡ e = ap (λ (given : Answer). let entry : Entry = record { caller = e.caller; event = e.event; answer = given } in entry) (sym stands.answered) in
    let rest : entries (length done + 1) (after (state S done) e.event) (map asked more) ≡ more =
    ap (λ (n : ℕ). entries n (after (state S done) e.event) (map asked more)) (sym (length-append done (e ∷ [])))
    ∙ ap (λ (T : State). entries (length (done ++ e ∷ [])) T (map asked more)) (sym (state-append S done (e ∷ [])))
    ∙ run_after S (done ++ e ∷ []) more (subst (IsLegal S) (sym (append_assoc done (e ∷ []) more)) legal) in
    rw (stands.room, rest) (ap (λ (x : Entry). x ∷ more) entry)

-- the run of a legal history's events is the history
pub run_back : (S : State) (h : List Entry) → IsLegal S h → run S (map asked h) ≡ h
run_back S h legal = run_after S [] h legal

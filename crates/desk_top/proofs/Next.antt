-- Events that are due one behind another.
use Rattle.std.proofs.Common.{◌≡◌, inl, inr, ℕ, ◌+◌, ◌<◌, ◌≤◌, ◌==◌, ◌^◌, Bool, true, false, cond, List, [], ◌∷◌, ◌++◌, refl, sym, ap, subst, ◌∙◌, arith}
use Rattle.std.specs.Prelude.{Option, Some, Result, Ok, Err, nat_lt, if◌then◌else◌, ok_or, slice_get}
use Rattle.std.specs.List.{AllByRecursion}
use Rattle.std.proofs.lemmas.Bool.{cases_Bool, eqb-true}
use Rattle.std.proofs.lemmas.Bool.Decides.{nat_tests}
use Rattle.std.proofs.lemmas.List.Sums.{sum_by-append}
use Rattle.day_orders.specs.declared.orders.Batch.{Batch}
use Rattle.desk_data.specs.Situation.{Situation}
use Rattle.file_rows.specs.declared.cause.Cause.{Cause}
use Rattle.file_rows.specs.declared.cause.Cause.TheVariants as cause
use Rattle.desk_text.specs.Rows.{◌>>=◌, at_line}
use Rattle.plan_moves.specs.declared.moves.Step.{Step}
use Rattle.desk_model.specs.declared.answer.Event.{Event}
use Rattle.desk_model.specs.declared.answer.Event.TheVariants as event
use Rattle.desk_model.specs.Histories.{has_room, is_batch}
use Rattle.desk_journal.specs.declared.rows.JournalRow.{JournalRow}
use Rattle.desk_journal.specs.declared.rows.NamedEvent.{NamedEvent}
use Rattle.desk_journal.specs.declared.rows.NamedEvent.TheVariants as named_event
use Rattle.desk_journal.specs.declared.rows.NamedStep.{NamedStep}
use Rattle.file_joins.specs.Join as join
use Rattle.file_joins.specs.Join.{all_of, all_after, asked_of, batches_in, event_of, is_move, joined_move, move_of, step_of, stated_batch}
use Rattle.desk_journal.specs.Payloads.{AreNext, with_room_from as events_from}
use Rattle.desk_top.specs.Due.{AreDue, IsDue, IsFew, IsNumbered, IsShort}
use Rattle.plan_moves.specs.Fits.{Fits}
use Rattle.desk_top.proofs.Fits.{move_fits}
use Rattle.desk_top.proofs.Parts.{bound, same_Ok, known, at_line-Ok}

-- ---- the event of a row

-- it is due, and a batch where the row is one
abbrev pub Comes : Situation → List Batch → ℕ → NamedEvent → Event → Type 0
Comes I batches due named e = IsDue I batches due e × (is_batch e ≡ join.is_batch named)

there_by : (b : Bool) (o : Option Batch) (batch : Batch) → (let given : Result Batch Cause = cond b (ok_or o cause.Batch) (Err cause.Batch) in given) ≡ Ok batch → (b ≡ true) × (o ≡ Some batch)
there_by true o batch h = (refl, known o cause.Batch batch h)
there_by false o batch h = absurd cc

there : (batches : List Batch) (due number : ℕ) (batch : Batch) → join.batch_of batches due number ≡ Ok batch → (number ≡ due) × (slice_get batches number ≡ Some batch)
unfolding Rattle.file_joins.specs.Join.batch_of
there batches due number batch h = (let at = there_by (number == due) (slice_get batches number) batch h in (eqb-true number due at.0, at.1))

batch_comes : (I : Situation) (batches : List Batch) (due number : ℕ) (e : Event) → number ≤ 1000 → stated_batch batches due number ≡ Ok e → Comes I batches due (named_event.Batch number) e
unfolding stated_batch
batch_comes I batches due number e few h =
    let batch = bound (join.batch_of batches due number) (λ batch. Ok (event.Batch batch)) e h in
    let at = there batches due number batch.0 batch.1 in
    let own : Comes I batches due (named_event.Batch number) (event.Batch batch.0) =
    ((omega (arith, few, at.0), subst (λ (n : ℕ). slice_get batches n ≡ Some batch.0) at.0 at.1), refl) in
    subst (Comes I batches due (named_event.Batch number)) (same_Ok (event.Batch batch.0) e batch.2) own

move_by : (I : Situation) (batches : List Batch) (due : ℕ) (named : List NamedStep) (steps : List Step) (e : Event) (b : Bool) → (b ≡ true → Fits I (record { steps = steps })) → (let given : Result Event Cause = cond b (Ok (event.Move (record { steps = steps }))) (Err cause.Move) in given) ≡ Ok e → Comes I batches due (named_event.Move named) e
move_by I batches due named steps e true fits h =
    let own : Comes I batches due (named_event.Move named) (event.Move (record { steps = steps })) = (fits refl, refl) in
    subst (Comes I batches due (named_event.Move named)) (same_Ok (event.Move (record { steps = steps })) e h) own
move_by I batches due named steps e false fits h = absurd cc

move_comes : (I : Situation) (batches : List Batch) (due : ℕ) (named : List NamedStep) (e : Event) → AllByRecursion IsShort named → joined_move I named ≡ Ok e → Comes I batches due (named_event.Move named) e
unfolding joined_move move_of
move_comes I batches due named e short h =
    let steps = bound (all_of (step_of I) named) move_of e h in
    move_by I batches due named steps.0 e (is_move steps.0) (move_fits I named steps.0 short steps.1) steps.2

event_comes : (I : Situation) (batches : List Batch) (due : ℕ) (named : NamedEvent) (e : Event) → IsFew named → event_of I batches due named ≡ Ok e → Comes I batches due named e
event_comes I batches due (named_event.Batch number) e few h = batch_comes I batches due number e few h
event_comes I batches due (named_event.Move steps) e few h = move_comes I batches due steps e few h

-- ---- a row

-- its caller and its event
abbrev RowComes : Situation → List Batch → ℕ → JournalRow → ℕ × Event → Type 0
RowComes I batches due row asked = (asked.0 ≤ 64) × Comes I batches due row.event asked.1

row_comes : (I : Situation) (batches : List Batch) (before : List JournalRow) (row : JournalRow) (asked : ℕ × Event) → IsNumbered row → asked_of I batches before row ≡ Ok asked → RowComes I batches (batches_in before) row asked
unfolding asked_of
row_comes I batches before row asked numbered h =
    let given = event_of I batches (batches_in before) row.event in
    let e = bound (at_line row.line given) (λ e. Ok (row.caller, e)) asked h in
    subst (RowComes I batches (batches_in before) row) (same_Ok (row.caller, e.0) asked e.2)
    (numbered.0, event_comes I batches (batches_in before) row.event e.0 numbered.1 (at_line-Ok row.line given e.0 e.1))

-- so many batches are due after it
due_then : (b : Bool) (due next : ℕ) → next ≡ due + cond b 1 0 → (if b then due + 1 else due) ≡ next
due_then true due next is = omega (arith, is)
due_then false due next is = omega (arith, is)

one_row : (row : JournalRow) (b : Bool) → join.is_batch row.event ≡ b → batches_in (row ∷ []) ≡ cond b 1 0
one_row row true is = rw is refl
one_row row false is = rw is refl

due_after : (before : List JournalRow) (row : JournalRow) → (if join.is_batch row.event then batches_in before + 1 else batches_in before) ≡ batches_in (before ++ row ∷ [])
due_after before row =
    let b = join.is_batch row.event in
    let more : batches_in (before ++ row ∷ []) ≡ batches_in before + batches_in (row ∷ []) = sum_by-append (λ (r : JournalRow). cond (join.is_batch r.event) 1 0) before (row ∷ []) in
    due_then b (batches_in before) (batches_in (before ++ row ∷ [])) (more ∙ ap (λ (n : ℕ). batches_in before + n) (one_row row b refl))

-- ---- all rows

parts_read : {B E : Type 0} (first : Result B E) (rest : Result (List B) E) (ys : List B) → (first >>= λ z. rest >>= λ zs. Ok (z ∷ zs)) ≡ Ok ys → (z : B) × (zs : List B) × (first ≡ Ok z) × (rest ≡ Ok zs) × (z ∷ zs ≡ ys)
parts_read (Err e) rest ys h = absurd cc
parts_read (Ok z) (Err e) ys h = absurd cc
parts_read (Ok z) (Ok zs) ys h = (z, zs, refl, refl, cc)

parts : {A B E : Type 0} (f : List A → A → Result B E) (before : List A) (x : A) (xs : List A) (ys : List B) → all_after f before (x ∷ xs) ≡ Ok ys → (z : B) × (zs : List B) × (f before x ≡ Ok z) × (all_after f (before ++ x ∷ []) xs ≡ Ok zs) × (z ∷ zs ≡ ys)
unfolding all_after
parts f before x xs ys h = parts_read (f before x) (all_after f (before ++ x ∷ []) xs) ys h

none : {A B E : Type 0} (f : List A → A → Result B E) (before : List A) (ys : List B) → all_after f before [] ≡ Ok ys → [] ≡ ys
unfolding all_after
none f before ys h = cc

pub rows_due : (I : Situation) (batches : List Batch) (before rows : List JournalRow) (events : List (ℕ × Event)) → AllByRecursion IsNumbered rows → all_after (asked_of I batches) before rows ≡ Ok events → AreDue I batches (batches_in before) events
rows_due I batches before [] events numbered h = subst (AreDue I batches (batches_in before)) (none (asked_of I batches) before events h) tt
rows_due I batches before (row ∷ rows) events numbered h =
    let at = parts (asked_of I batches) before row rows events h in
    let comes = row_comes I batches before row at.0 numbered.0 at.2 in
    let next : (if is_batch at.0.1 then batches_in before + 1 else batches_in before) ≡ batches_in (before ++ row ∷ []) =
    ap (λ (b : Bool). if b then batches_in before + 1 else batches_in before) comes.1.1 ∙ due_after before row in
    let rest = rows_due I batches (before ++ row ∷ []) rows at.1 numbered.1 at.3 in
    subst (AreDue I batches (batches_in before)) at.4
    (comes.0, (comes.1.0, subst (λ (n : ℕ). AreDue I batches n at.1) (sym next) rest))

-- ---- the history

events_none : (n : ℕ) → events_from n [] ≡ []
unfolding Rattle.desk_journal.specs.Payloads.with_room_from
events_none n = refl

events_one : (n : ℕ) (e : ℕ × Event) (es : List (ℕ × Event)) → has_room n e.1 ≡ true → events_from n (e ∷ es) ≡ e ∷ events_from (n + 1) es
unfolding Rattle.desk_journal.specs.Payloads.with_room_from
events_one n e es is = rw is refl

events_past : (n : ℕ) (e : ℕ × Event) (es : List (ℕ × Event)) → has_room n e.1 ≡ false → events_from n (e ∷ es) ≡ events_from n es
unfolding Rattle.desk_journal.specs.Payloads.with_room_from
events_past n e es is = rw is refl

below : (n most : ℕ) → nat_lt n most ≡ true → n < most
below n most is = grind (arith, nat_tests)

has_below : (n most : ℕ) → n < most → nat_lt n most ≡ true
has_below n most lt = grind (arith, nat_tests)

-- a batch that is due always finds room, and a move that finds none is passed over
pub due_next : (I : Situation) (batches : List Batch) (n due : ℕ) (events : List (ℕ × Event)) → n ≤ 900000 + due → AreDue I batches due events → AreNext I batches due (events_from n events)
due_next I batches n due [] le are = subst (AreNext I batches due) (sym (events_none n)) tt
due_next I batches n due ((c, event.Batch B) ∷ es) le are =
    let few : due ≤ 1000 = are.1.0.0 in
    let room : has_room n (event.Batch B) ≡ true = has_below n 1000000 (omega (arith, few, le)) in
    let caller : c < 2 ^ 32 = omega (arith, are.0) in
    let number : due < 2 ^ 32 = omega (arith, few) in
    subst (AreNext I batches due) (sym (events_one n (c, event.Batch B) es room))
    (caller, ((number, are.1.0.1), due_next I batches (n + 1) (due + 1) es (omega (arith, le)) are.1.1))
due_next I batches n due ((c, event.Move m) ∷ es) le are = elim (cases_Bool (has_room n (event.Move m))) [
  | inl room ↦
      let caller : c < 2 ^ 32 = omega (arith, are.0) in
      subst (AreNext I batches due) (sym (events_one n (c, event.Move m) es room))
      (caller, (are.1.0, due_next I batches (n + 1) due es (omega (arith, below n 900000 room)) are.1.1))
  | inr full ↦ subst (AreNext I batches due) (sym (events_past n (c, event.Move m) es full)) (due_next I batches n due es le are.1.1)
]

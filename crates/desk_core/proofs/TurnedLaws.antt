-- A book as turns serve it.
use Rattle.std.proofs.Common.{◌≡◌, ℕ, Bool, true, false, leb, List, ◌++◌, length, take, refl, sym, ap, subst, ◌∙◌, inl, inr}
use Rattle.std.specs.Prelude.{None, Some, Option, is_some, not, Result, Ok, Err, IfOk, OnOk}
use Rattle.std.proofs.lemmas.Bool.{cases_Bool}
use Rattle.std.proofs.lemmas.List.{append-nil}
use Rattle.plan_moves.specs.declared.moves.Move.{Move}
use Rattle.desk_data.specs.declared.broken.Broken.{Broken}
use Rattle.desk_data.specs.Progress.{with_batch}
use Rattle.desk_data.specs.Situation.{Situation}
use Rattle.desk_rules.specs.Least.{least}
use Rattle.desk_rules.specs.Cost.{cost}
use Rattle.desk_model.specs.declared.answer.Answer.{Answer}
use Rattle.desk_model.specs.declared.answer.Event.{Event}
use Rattle.desk_model.specs.declared.answer.Event.TheVariants as event
use Rattle.desk_model.specs.declared.answer.Entry.{Entry}
use Rattle.desk_model.specs.declared.fallbacks.Fallback.{Fallback}
use Rattle.desk_model.specs.declared.fallbacks.Fallback.TheVariants as fallen
use Rattle.desk_model.specs.Steps.{after_move}
use Rattle.desk_model.specs.States.{State, opening, fallback_on, batch_answer, verdict, move_answer, answer}
use Rattle.desk_model.specs.Histories.{state, has_room, IsAskable, Stands, IsLegal, entry_of}
use Rattle.desk_model.specs.Promises.{KeepsPromises}
use Rattle.desk_model.proofs.HistoryLaws.{promises}
use Rattle.desk_model.proofs.StatePlans.{askable_along}
use Rattle.turn_book.specs.Histories as turn
use Rattle.turn_book.specs.Passes.{Called}
use Rattle.turn_book.specs.declared.view.View.{View}
use Rattle.desk_core.specs.Recorded.{Recorded, reply, with_entry}
use Rattle.desk_core.specs.Turned.{is_full, tells_entry, entry_added, Replies, GetsAnswer}

-- ---- no state answers Full

batch_tells : (I : Situation) (F : Fallback) → is_full (batch_answer I F) ≡ false
batch_tells I (fallen.Chosen which Q) = refl
batch_tells I (fallen.NoPlan item Q) = refl

verdict_tells : (b : Option Broken) (now would : ℕ) → is_full (verdict b now would) ≡ false
verdict_tells (Some item) now would = refl
verdict_tells None now would =
    elim (cases_Bool (leb now would)) [
      | inl dear ↦ rw dear refl
      | inr cheap ↦ rw cheap refl
    ]

move_tells : (S : State) (m : Move) (b : Option Broken) → is_full (move_answer S m b) ≡ false
move_tells S m (Some item) = refl
move_tells S m None = verdict_tells (least S.inst (after_move S.inst S.plan m)) (cost S.inst S.plan) (cost S.inst (after_move S.inst S.plan m))

pub answer_tells : (S : State) (e : Event) → is_full (answer S e) ≡ false
unfolding answer
answer_tells S (event.Batch B) = batch_tells (with_batch S.inst S.plan B) (fallback_on S B)
answer_tells S (event.Move m) = move_tells S m S.broken

-- ---- what is served

reply_tells : (I : Situation) (g : List Entry) (caller : ℕ) (e : Event) → is_some (entry_added I g caller e) ≡ tells_entry (reply (record { opening = I; journal = g }) e)
reply_tells I g caller e =
    elim (cases_Bool (has_room (length g) e)) [
      | inl room ↦ (let quiet = answer_tells (state (opening I) g) e in rw (room, quiet) refl)
      | inr full ↦ rw full refl
    ]

journal_grows : (R : Recorded) (caller : ℕ) (e : Event) → (with_entry R caller e).journal ≡ R.journal ++ turn.listed (entry_added R.opening R.journal caller e)
journal_grows R caller e =
    elim (cases_Bool (has_room (length R.journal) e)) [
      | inl room ↦ rw room refl
      | inr full ↦ rw full (sym (append-nil R.journal))
    ]

pub served : (R Q : Recorded) (caller : ℕ) (e : Event) (given : Answer) → given ≡ reply R e → Q ≡ with_entry R caller e → turn.Served Replies tells_entry R.opening R.journal caller e given Q.journal
served R Q caller e given is later = (
  entry_added R.opening R.journal caller e,
  record { answered = is; recorded = refl },
  ap (λ (S : Recorded). S.journal) later ∙ journal_grows R caller e,
  reply_tells R.opening R.journal caller e ∙ sym (ap tells_entry is),
)

-- and of a call that is Ok or not
pub served_call : {E : Type 0} (R Q : Recorded) (caller : ℕ) (e : Event) (result : Result Answer E) → IfOk result (λ given. given ≡ reply R e) → OnOk result (Q ≡ with_entry R caller e) → IfOk result (λ given. turn.Served Replies tells_entry R.opening R.journal caller e given Q.journal)
served_call R Q caller e (Ok given) is later = served R Q caller e given is later
served_call R Q caller e (Err error) is later = tt

-- ---- legal histories

answered_at : (I : Situation) (g : List Entry) (entry : Entry) → Stands (opening I) g entry → Replies I g entry.caller entry.event entry.answer (Some entry)
answered_at I g entry s =
    let S = state (opening I) g in
    record {
      answered = rw s.room s.answered;
      recorded = rw s.room (ap (λ (a : Answer). let at : Entry = record { caller = entry.caller; event = entry.event; answer = a } in Some at) s.answered);
    }

-- a legal history of the desk is one that turns have
pub turn_legal : (I : Situation) (h : List Entry) → IsLegal (opening I) h → turn.IsLegal IsAskable Replies I h
turn_legal I h legal k entry at =
    let s = legal k entry at in
    (entry.caller, entry.event, entry.answer, (askable_along I (take k h) entry.event).0 s.asked, answered_at I (take k h) entry s)

added_is : (I : Situation) (g : List Entry) (caller : ℕ) (e : Event) (entry : Entry) (b : Bool) → has_room (length g) e ≡ b → Some entry ≡ entry_added I g caller e → (has_room (length g) e ≡ true) × (entry ≡ entry_of (state (opening I) g) caller e)
added_is I g caller e entry true room is =
    let some : Some entry ≡ Some (entry_of (state (opening I) g) caller e) = rw room at is in
    (room, cc)
added_is I g caller e entry false room is =
    let none : Some entry ≡ None = rw room at is in
    absurd cc

stands_at : (I : Situation) (g : List Entry) (caller : ℕ) (e : Event) (given : Answer) (entry : Entry) → IsAskable I e → Replies I g caller e given (Some entry) → Stands (opening I) g entry
stands_at I g caller e given entry asked replies =
    let facts = added_is I g caller e entry (has_room (length g) e) refl replies.recorded in
    let made : Stands (opening I) g (entry_of (state (opening I) g) caller e) = record { room = facts.0; asked = (askable_along I g e).1 asked; answered = refl } in
    subst (λ (x : Entry). Stands (opening I) g x) (sym facts.1) made

-- and what turns have is a legal history of the desk
pub desk_legal : (I : Situation) (h : List Entry) → turn.IsLegal IsAskable Replies I h → IsLegal (opening I) h
desk_legal I h legal k entry at =
    let by = legal k entry at in
    stands_at I (take k h) by.0 by.1 by.2 entry by.3 by.4

pub turn_promises : (I : Situation) (h : List Entry) → turn.IsLegal IsAskable Replies I h → KeepsPromises I h
turn_promises I h legal = promises I h (desk_legal I h legal)

-- ---- what a call says

full_is : (I : Situation) (g : List Entry) (e : Event) → is_full (reply (record { opening = I; journal = g }) e) ≡ not (has_room (length g) e)
full_is I g e =
    elim (cases_Bool (has_room (length g) e)) [
      | inl room ↦ rw room (answer_tells (state (opening I) g) e)
      | inr full ↦ rw full refl
    ]

pub reported_of : (I : Situation) (v : View Situation Entry) (caller : ℕ) (e : Event) (given : Answer) (w : View Situation Entry) → Called Replies tells_entry I v caller e given w → GetsAnswer I v caller e given w
reported_of I v caller e given w called = record {
  history = called.before;
  began = called.began;
  room = λ room.
      let added : called.added ≡ Some (entry_of (state (opening I) called.before) caller e) = called.answered.recorded ∙ rw room refl in
      (called.answered.answered ∙ rw room refl, called.seen ∙ rw added refl, called.made ∙ rw added refl);
  none = λ full.
      let added : called.added ≡ None = called.answered.recorded ∙ rw full refl in
      (called.answered.answered ∙ rw full refl, called.seen ∙ rw added (append-nil called.before), called.made ∙ rw added (append-nil v.made));
  tells = ap is_full called.answered.answered ∙ full_is I called.before e;
}

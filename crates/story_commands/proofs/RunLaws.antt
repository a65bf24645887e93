-- A book after an event, and after all of them.
use Rattle.std.proofs.Common.{◌≡◌, ℕ, ◌+◌, ◌<◌, ◌≤◌, List, [], ◌∷◌, ◌++◌, length, get_or, drop, refl, sym, ap, subst, ◌∙◌, add-one, suc, inl, inr}
use Rattle.std.proofs.lemmas.Bool.{cases_Bool}
use Rattle.std.proofs.Math.Seq.{drop-cons}
use Rattle.std.proofs.Math.ListN.{drop_of_length-le}
use Rattle.desk_data.specs.Situation.{Situation}
use Rattle.desk_model.specs.declared.answer.Event.{Event}
use Rattle.desk_model.specs.declared.answer.Entry.{Entry}
use Rattle.desk_model.specs.States.{opening}
use Rattle.desk_model.specs.Histories.{state, has_room, entries, run}
use Rattle.desk_model.proofs.HistoryLaws.{with_event, run-step, run-nil}
use Rattle.desk_core.specs.Recorded.{Recorded, with_entry}

-- the book after an event has the journal with it
recorded-with : (B : Recorded) (caller : ℕ) (event : Event) → (with_entry B caller event).journal ≡ with_event (opening B.opening) B.journal (caller, event)
recorded-with B caller event =
    elim (cases_Bool (has_room (length B.journal) event)) [
      | inl room ↦ rw room refl
      | inr full ↦ rw full refl
    ]

recorded-opening : (B : Recorded) (caller : ℕ) (event : Event) → (with_entry B caller event).opening ≡ B.opening
recorded-opening B caller event =
    elim (cases_Bool (has_room (length B.journal) event)) [
      | inl room ↦ rw room refl
      | inr full ↦ rw full refl
    ]

-- the journal and the entries of the events that are left are this history
pub record Continues (I : Situation) (B : Recorded) (left : List (ℕ × Event)) (h : List Entry) : Type 0 where
  pub same : B.opening ≡ I
  pub rest : B.journal ++ entries (length B.journal) (state (opening I) B.journal) left ≡ h

-- the journal of a book with one event more
pub journal-next : (I : Situation) (B C : Recorded) (e : ℕ × Event) → C ≡ with_entry B e.0 e.1 → B.opening ≡ I → C.journal ≡ with_event (opening I) B.journal e
journal-next I B C e is same = ap (λ (D : Recorded). D.journal) is ∙ recorded-with B e.0 e.1 ∙ ap (λ (J : Situation). with_event (opening J) B.journal e) same

pub continues-next : (I : Situation) (B C : Recorded) (e : ℕ × Event) (i : ℕ) (events : List (ℕ × Event)) (h : List Entry) → i < length events → e ≡ get_or events i e → C ≡ with_entry B e.0 e.1 → Continues I B (drop i events) h → Continues I C (drop (i + 1) events) h
continues-next I B C e i events g lt at is h =
    let left : drop i events ≡ e ∷ drop (i + 1) events = rw add-one (drop-cons events i e lt ∙ ap (λ (x : ℕ × Event). x ∷ drop (suc i) events) (sym at)) in
    let journal : C.journal ≡ with_event (opening I) B.journal e = journal-next I B C e is h.same in
    record {
      same = ap (λ (D : Recorded). D.opening) is ∙ recorded-opening B e.0 e.1 ∙ h.same;
      rest = rw journal
          (sym (run-step (opening I) B.journal e (drop (i + 1) events))
          ∙ ap (λ (xs : List (ℕ × Event)). B.journal ++ entries (length B.journal) (state (opening I) B.journal) xs) (sym left)
          ∙ h.rest);
    }

-- where no event is left the journal is that history
pub continues-end : (I : Situation) (B : Recorded) (i : ℕ) (events : List (ℕ × Event)) (h : List Entry) → length events ≤ i → Continues I B (drop i events) h → B ≡ record { opening = I; journal = h }
continues-end I B i events g le h =
    let left : drop i events ≡ [] = drop_of_length-le events le in
    let journal : B.journal ≡ g =
    sym (run-nil (opening I) B.journal)
    ∙ ap (λ (xs : List (ℕ × Event)). B.journal ++ entries (length B.journal) (state (opening I) B.journal) xs) (sym left)
    ∙ h.rest in
    let made = λ (J : Situation) (h : List Entry). let B : Recorded = record { opening = J; journal = h } in B in
    ap (λ (J : Situation). made J B.journal) h.same ∙ ap (made I) journal

pub continues-start : (I : Situation) (B : Recorded) (events : List (ℕ × Event)) → B ≡ record { opening = I; journal = [] } → Continues I B (drop 0 events) (run (opening I) events)
continues-start I B events is =
    subst (λ (D : Recorded). Continues I D (drop 0 events) (run (opening I) events)) (sym is) (record { same = refl; rest = refl })

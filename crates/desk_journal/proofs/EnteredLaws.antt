-- Which events find room.
use Rattle.std.proofs.Common.{◌≡◌, inl, inr, ℕ, ◌+◌, ◌≤◌, List, [], ◌∷◌, ◌++◌, length, take, drop, refl, sym, ap, ◌∙◌, arith}
use Rattle.std.specs.Prelude.{true, false}
use Rattle.std.proofs.lemmas.Bool.{cases_Bool}
use Rattle.std.proofs.lemmas.List.{length-append, length-map, take_at, take-append-drop}
use Rattle.desk_model.specs.declared.answer.Entry.{Entry}
use Rattle.desk_model.specs.declared.answer.Event.{Event}
use Rattle.desk_model.specs.States.{State, after}
use Rattle.desk_model.specs.Histories.{entries, entry_of, has_room, run}
use Rattle.desk_journal.specs.Payloads.{asked_in, with_room, with_room_from}

-- ---- one event

entered_none : (n : ℕ) → with_room_from n [] ≡ []
unfolding with_room_from
entered_none n = refl

entered_one : (n : ℕ) (e : ℕ × Event) (more : List (ℕ × Event)) → has_room n e.1 ≡ true → with_room_from n (e ∷ more) ≡ e ∷ with_room_from (n + 1) more
unfolding with_room_from
entered_one n e more room = rw room refl

entered_past : (n : ℕ) (e : ℕ × Event) (more : List (ℕ × Event)) → has_room n e.1 ≡ false → with_room_from n (e ∷ more) ≡ with_room_from n more
unfolding with_room_from
entered_past n e more full = rw full refl

entries_none : (n : ℕ) (S : State) → entries n S [] ≡ []
unfolding entries
entries_none n S = refl

entries_one : (n : ℕ) (S : State) (e : ℕ × Event) (more : List (ℕ × Event)) → has_room n e.1 ≡ true → entries n S (e ∷ more) ≡ entry_of S e.0 e.1 ∷ entries (n + 1) (after S e.1) more
unfolding entries
entries_one n S e more room = rw room refl

entries_past : (n : ℕ) (S : State) (e : ℕ × Event) (more : List (ℕ × Event)) → has_room n e.1 ≡ false → entries n S (e ∷ more) ≡ entries n S more
unfolding entries
entries_past n S e more full = rw full refl

-- ---- all of them

run_enters : (n : ℕ) (S : State) (es : List (ℕ × Event)) → asked_in (entries n S es) ≡ with_room_from n es
run_enters n S [] = ap asked_in (entries_none n S) ∙ sym (entered_none n)
run_enters n S (e ∷ es) = elim (cases_Bool (has_room n e.1)) [
  | inl room ↦ ap asked_in (entries_one n S e es room) ∙ ap (λ (l : List (ℕ × Event)). e ∷ l) (run_enters (n + 1) (after S e.1) es) ∙ sym (entered_one n e es room)
  | inr full ↦ ap asked_in (entries_past n S e es full) ∙ run_enters n S es ∙ sym (entered_past n e es full)
]

pub run_enters_all : (S : State) (events : List (ℕ × Event)) → asked_in (run S events) ≡ with_room events
run_enters_all S events = run_enters 0 S events

entered_again : (n : ℕ) (es : List (ℕ × Event)) → with_room_from n (with_room_from n es) ≡ with_room_from n es
entered_again n [] = ap (with_room_from n) (entered_none n)
entered_again n (e ∷ es) = elim (cases_Bool (has_room n e.1)) [
  | inl room ↦ ap (with_room_from n) (entered_one n e es room) ∙ entered_one n e (with_room_from (n + 1) es) room ∙ ap (λ (l : List (ℕ × Event)). e ∷ l) (entered_again (n + 1) es) ∙ sym (entered_one n e es room)
  | inr full ↦ ap (with_room_from n) (entered_past n e es full) ∙ entered_again n es ∙ sym (entered_past n e es full)
]

entered_few : (n : ℕ) (es : List (ℕ × Event)) → length (with_room_from n es) ≤ length es
entered_few n [] = omega (arith, ap length (entered_none n))
entered_few n (e ∷ es) = elim (cases_Bool (has_room n e.1)) [
  | inl room ↦ omega (arith, ap length (entered_one n e es room), entered_few (n + 1) es)
  | inr full ↦ omega (arith, ap length (entered_past n e es full), entered_few n es)
]

entered-append : (n : ℕ) (xs ys : List (ℕ × Event)) → with_room_from n (xs ++ ys) ≡ with_room_from n xs ++ with_room_from (n + length (with_room_from n xs)) ys
entered-append n [] ys =
    let same : n + length (with_room_from n []) ≡ n = omega (arith, ap length (entered_none n)) in
    sym (ap (λ (l : List (ℕ × Event)). l ++ with_room_from (n + length (with_room_from n [])) ys) (entered_none n) ∙ ap (λ (k : ℕ). with_room_from k ys) same)
entered-append n (x ∷ xs) ys = elim (cases_Bool (has_room n x.1)) [
  | inl room ↦
      let place : (n + 1) + length (with_room_from (n + 1) xs) ≡ n + length (x ∷ with_room_from (n + 1) xs) = omega arith in
      entered_one n x (xs ++ ys) room ∙ ap (λ (l : List (ℕ × Event)). x ∷ l) (entered-append (n + 1) xs ys)
      ∙ ap (λ (k : ℕ). x ∷ (with_room_from (n + 1) xs ++ with_room_from k ys)) place
      ∙ ap (λ (l : List (ℕ × Event)). l ++ with_room_from (n + length l) ys) (sym (entered_one n x xs room))
  | inr full ↦ entered_past n x (xs ++ ys) full ∙ entered-append n xs ys ∙ ap (λ (l : List (ℕ × Event)). l ++ with_room_from (n + length l) ys) (sym (entered_past n x xs full))
]

-- where all find room, so do the first of them
pub front_enters : (n k : ℕ) (es : List (ℕ × Event)) → with_room_from n es ≡ es → with_room_from n (take k es) ≡ take k es
front_enters n k es is =
    let front = take k es in
    let rest = drop k es in
    let got = with_room_from n front in
    let behind = with_room_from (n + length got) rest in
    let parts : got ++ behind ≡ front ++ rest = sym (entered-append n front rest) ∙ ap (with_room_from n) (take-append-drop k es) ∙ is ∙ sym (take-append-drop k es) in
    let size : length got ≡ length front = omega (arith, ap length parts, length-append got behind, length-append front rest, entered_few n front, entered_few (n + length got) rest) in
    sym (take_at got behind (length front) size) ∙ ap (take (length front)) parts ∙ take_at front rest (length front) refl

pub entered_history : (S : State) (all : List (ℕ × Event)) → with_room (asked_in (run S all)) ≡ asked_in (run S all)
entered_history S all = ap with_room (run_enters_all S all) ∙ entered_again 0 all ∙ sym (run_enters_all S all)

pub length-asked : (h : List Entry) → length (asked_in h) ≡ length h
length-asked h = length-map {B = ℕ × Event} h (λ (entry : Entry). (entry.caller, entry.event))

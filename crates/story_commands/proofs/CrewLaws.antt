-- The lines of the crews along a run, and the board that follows it.
use Rattle.std.proofs.Common.{◌≡◌, ℕ, ◌+◌, ◌<◌, ◌≤◌, Bool, true, false, List, [], ◌∷◌, ◌++◌, length, take, get_or, set, refl, sym, ap, subst, ◌∙◌, inl, inr, arith, append_assoc}
use Rattle.std.specs.Prelude.{nat_lt, None, OnOk, Result, Ok, Err}
use Rattle.std.proofs.lemmas.Bool.{cases_Bool}
use Rattle.std.proofs.lemmas.Bool.Decides.{nat_tests}
use Rattle.std.proofs.lemmas.List.{append-nil, set-get_or, take_all, take_more, take_more_set, length-append, get_or_push}
use Rattle.std.proofs.Math.Seq.{take-append_seam}
use Rattle.std.proofs.lemmas.List.Sums.{count_by_more_no, count_by_more_yes}
use Rattle.desk_data.specs.declared.row.Row.{Row}
use Rattle.desk_data.specs.Situation.{Situation}
use Rattle.desk_model.specs.declared.answer.Event.{Event}
use Rattle.desk_model.specs.declared.answer.Entry.{Entry}
use Rattle.desk_model.specs.States.{State, opening}
use Rattle.desk_model.specs.Histories.{has_room, is_change, changes, entry_of, run}
use Rattle.desk_core.specs.Recorded.{Recorded, state_of, with_entry}
use Rattle.crew_rules.specs.declared.crew.CrewInfo.{CrewInfo}
use Rattle.desk_tasks.specs.declared.ending.Ending.{Ending}
use Rattle.desk_tasks.specs.Commands.{history_files}
use Rattle.desk_tasks.specs.Outcome.{Outcome}
use Rattle.desk_tasks.specs.Runs.{World}
use Rattle.desk_tasks.specs.Finishing.{Completes}
use Rattle.desk_tasks.specs.Play.{story_on, history, remarks_with, history_outcome}
use Rattle.desk_tasks.specs.Crew.{plan_line, change_line, crew_lines, crewed_on, played_crews}
use Rattle.story_commands.specs.Crews.{AreLines, AreMoreLines}

-- ---- one row more is that of the plan

pub row_own : (B : List Row) (i : ℕ) (row d : Row) → row ≡ get_or B i d → set B i row ≡ B
row_own B i row d is = ap (set B i) is ∙ set-get_or B i d

pub rows_set : (P B : List Row) (i : ℕ) (row d : Row) → i < length P → i < length B → row ≡ get_or P i d → take i B ≡ take i P → take (i + 1) (set B i row) ≡ take (i + 1) P
rows_set P B i row d here there is before =
    take_more_set B i row there ∙ ap (λ (rows : List Row). rows ++ row ∷ []) before ∙ ap (λ (row : Row). take i P ++ row ∷ []) is ∙ sym (take_more P i d here)

pub rows_all : (P B : List Row) (n : ℕ) → length P ≤ n → length B ≤ n → take n B ≡ take n P → B ≡ P
rows_all P B n p b same = sym (take_all n B b) ∙ same ∙ take_all n P p

-- ---- one entry more

changes_yes : (h : List Entry) (e : Entry) → is_change e.event e.answer ≡ true → changes (h ++ e ∷ []) ≡ changes h + 1
changes_yes h e is =
    let p = λ (e : Entry). is_change e.event e.answer in
    let g = h ++ e ∷ [] in
    let len : length g ≡ length h + 1 = length-append h (e ∷ []) in
    let lt : length h < length g = omega (arith, len) in
    let step = count_by_more_yes p g (length h) e lt (ap p (get_or_push h e e (length h) refl) ∙ is) in
    let whole : take (length h + 1) g ≡ g = take_all (length h + 1) g (omega (arith, len)) in
    sym (ap changes whole) ∙ step ∙ ap (λ (h : List Entry). changes h + 1) (take-append_seam h (e ∷ []))

changes_no : (h : List Entry) (e : Entry) → is_change e.event e.answer ≡ false → changes (h ++ e ∷ []) ≡ changes h
changes_no h e is =
    let p = λ (e : Entry). is_change e.event e.answer in
    let g = h ++ e ∷ [] in
    let len : length g ≡ length h + 1 = length-append h (e ∷ []) in
    let lt : length h < length g = omega (arith, len) in
    let step = count_by_more_no p g (length h) e lt (ap p (get_or_push h e e (length h) refl) ∙ is) in
    let whole : take (length h + 1) g ≡ g = take_all (length h + 1) g (omega (arith, len)) in
    sym (ap changes whole) ∙ step ∙ ap changes (take-append_seam h (e ∷ []))

lines_more : (S : State) (cs : List CrewInfo) (before h : List Entry) (e : Entry) → crew_lines S cs before (h ++ e ∷ []) ≡ crew_lines S cs before h ++ change_line S cs (before ++ (h ++ e ∷ [])) e
unfolding crew_lines
lines_more S cs before [] e = append-nil (change_line S cs (before ++ e ∷ []) e)
lines_more S cs before (x ∷ h) e =
    let first = change_line S cs (before ++ x ∷ []) x in
    ap (λ (t : List ℕ). first ++ t) (lines_more S cs (before ++ x ∷ []) h e ∙ ap (λ (g : List Entry). crew_lines S cs (before ++ x ∷ []) h ++ change_line S cs g e) (append_assoc before (x ∷ []) (h ++ e ∷ [])))
    ∙ sym (append_assoc first (crew_lines S cs (before ++ x ∷ []) h) (change_line S cs (before ++ x ∷ (h ++ e ∷ [])) e))

-- what a run adds to the lines: where there is a change more the line of its state, else nothing
abbrev pub added : List CrewInfo → Recorded → Bool → List ℕ
added cs C true = plan_line cs (changes C.journal) (state_of C) (state_of C).broken
added cs C false = []

record Entered (cs : List CrewInfo) (B C : Recorded) : Type 0 where
  same : C.opening ≡ B.opening
  lines : crew_lines (opening C.opening) cs [] C.journal ≡ crew_lines (opening B.opening) cs [] B.journal ++ added cs C (nat_lt (changes B.journal) (changes C.journal))

entered_entry : (cs : List CrewInfo) (B : Recorded) (e : Entry) (b : Bool) → is_change e.event e.answer ≡ b → Entered cs B (record B { journal = B.journal ++ e ∷ [] })
entered_entry cs B e true is =
    let h = B.journal ++ e ∷ [] in
    let rose : nat_lt (changes B.journal) (changes h) ≡ true = let more = changes_yes B.journal e is in grind (arith, nat_tests, more) in
    record { same = refl; lines = lines_more (opening B.opening) cs [] B.journal e ∙ rw (is, rose) refl }
entered_entry cs B e false is =
    let h = B.journal ++ e ∷ [] in
    let stays : nat_lt (changes B.journal) (changes h) ≡ false = let same = changes_no B.journal e is in grind (arith, nat_tests, same) in
    record { same = refl; lines = lines_more (opening B.opening) cs [] B.journal e ∙ rw (is, stays) refl }

entered_none : (cs : List CrewInfo) (B : Recorded) → Entered cs B B
entered_none cs B =
    let stays : nat_lt (changes B.journal) (changes B.journal) ≡ false = grind (arith, nat_tests) in
    record { same = refl; lines = rw stays (sym (append-nil (crew_lines (opening B.opening) cs [] B.journal))) }

entered : (cs : List CrewInfo) (B : Recorded) (caller : ℕ) (event : Event) → Entered cs B (with_entry B caller event)
entered cs B caller event =
    elim (cases_Bool (has_room (length B.journal) event)) [
      | inl room ↦ rw room (let e = entry_of (state_of B) caller event in entered_entry cs B e (is_change e.event e.answer) refl)
      | inr full ↦ rw full (entered_none cs B)
    ]

pub lines_start : (I : Situation) (cs : List CrewInfo) (B : Recorded) (lines : List ℕ) → B ≡ record { opening = I; journal = [] } → lines ≡ [] → AreLines cs B lines
unfolding crew_lines
lines_start I cs B lines is empty = subst (λ (C : Recorded). AreLines cs C lines) (sym is) empty

-- one event more
pub lines_step : (cs : List CrewInfo) (B C : Recorded) (caller : ℕ) (event : Event) (lines more : List ℕ) (rose : Bool) → C ≡ with_entry B caller event → nat_lt (changes B.journal) (changes C.journal) ≡ rose
    → more ≡ lines ++ added cs C rose → AreMoreLines cs B C lines more
lines_step cs B C caller event lines more rose is test text so_far =
    let entry : Entered cs B C = subst (λ (D : Recorded). Entered cs B D) (sym is) (entered cs B caller event) in
    text
    ∙ ap (λ (t : List ℕ). t ++ added cs C rose) so_far
    ∙ ap (λ (b : Bool). crew_lines (opening B.opening) cs [] B.journal ++ added cs C b) (sym test)
    ∙ sym entry.lines

pub on_ok : {X Y : Type 0} (r : Result X Y) (S T : Type 0) → (S → T) → OnOk r S → OnOk r T
on_ok (Ok x) S T f h = f h
on_ok (Err e) S T f h = h

-- ---- all events

crewed_outcome : (I : Situation) (cs : List CrewInfo) (events : List (ℕ × Event)) → history_outcome I (remarks_with None (crew_lines (opening I) cs [] (run (opening I) events))) (run (opening I) events) ≡ played_crews (crewed_on (story_on I events) cs)
unfolding history
crewed_outcome I cs events = refl

pub played-beside : (before now : World) (I : Situation) (cs : List CrewInfo) (events : List (ℕ × Event)) (B : Recorded) (lines : List ℕ) (how : Ending) → B ≡ record { opening = I; journal = run (opening I) events } → lines ≡ crew_lines (opening I) cs [] (run (opening I) events)
    → Completes history_files before now (history_outcome B.opening (remarks_with None lines) B.journal) how → Completes history_files before now (played_crews (crewed_on (story_on I events) cs)) how
played-beside before now I cs events B lines how is same done =
    subst (λ (o : Outcome). Completes history_files before now o how)
    (ap (λ (C : Recorded). history_outcome C.opening (remarks_with None lines) C.journal) is
    ∙ ap (λ (text : List ℕ). history_outcome I (remarks_with None text) (run (opening I) events)) same
    ∙ crewed_outcome I cs events) done

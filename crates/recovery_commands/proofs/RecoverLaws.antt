-- Batches are taken one after another, each with its descent.
use Rattle.std.proofs.Common.{◌≡◌, ℕ, ◌+◌, ◌-◌, ◌<◌, ◌≤◌, List, [], ◌∷◌, ◌++◌, length, get_or, drop, refl, sym, ap, subst, ◌∙◌, arith, add-one, suc, length-append}
use Rattle.std.specs.Prelude.{Option}
use Rattle.std.proofs.lemmas.Bool.{lt-ltb}
use Rattle.std.proofs.Math.Seq.{drop-cons}
use Rattle.std.proofs.lemmas.List.{length-drop}
use Rattle.std.proofs.Math.ListN.{drop_of_length-le}
use Rattle.std.proofs.lemmas.List.Concat.{flat_map-append}
use Rattle.day_orders.specs.declared.orders.Batch.{Batch}
use Rattle.desk_data.specs.Situation.{Situation}
use Rattle.desk_model.specs.declared.answer.Event.TheVariants as event
use Rattle.desk_model.specs.declared.answer.Entry.{Entry}
use Rattle.desk_model.specs.States.{opening}
use Rattle.desk_model.specs.Histories.{state, proposal_limit, batch_limit, entry_of}
use Rattle.desk_core.specs.Recorded.{Recorded, state_of, with_entry}
use Rattle.near_moves.specs.Descent.{descent, recovery_after, recovery}
use Rattle.near_moves.specs.Descents.{batch_in, batches_in}
use Rattle.near_moves.proofs.DescentLaws.{descent-length}
use Rattle.near_moves.proofs.RecoveryLaws.{recovery-batches}
use Rattle.recovery_commands.specs.Ending.{ending, after_descent}
use Rattle.near_moves.specs.declared.ended.SearchEnd.{SearchEnd}
use Rattle.desk_tasks.specs.declared.ending.Ending.{Ending}
use Rattle.desk_tasks.specs.Commands.{history_files}
use Rattle.desk_tasks.specs.Outcome.{Outcome}
use Rattle.desk_tasks.specs.Runs.{World}
use Rattle.desk_tasks.specs.Finishing.{Completes}
use Rattle.desk_tasks.specs.Play.{search_remarks, history_outcome}
use Rattle.desk_tasks.specs.Recover.{recovery_on, recovered_history, search_end, reported_alone, recovered, tried}
use Rattle.recovery_commands.specs.Recovered.{IsRecoveredBook}

-- the batches that are left make of the book's journal the recovery of all; and where one was taken, its search ended so
pub record Continues (I : Situation) (moves : ℕ) (B : Recorded) (ended : Option SearchEnd) (i : ℕ) (left batches : List Batch) : Type 0 where
  pub same : B.opening ≡ I
  pub rest : recovery_after moves (opening I) B.journal left ≡ recovery moves (opening I) batches
  pub few : length B.journal ≤ proposal_limit + i
  pub ended_is : 1 ≤ i → ended ≡ ending moves (state_of B) B.journal

pub continues-start : (I : Situation) (moves : ℕ) (B : Recorded) (ended : Option SearchEnd) (batches : List Batch) → B ≡ record { opening = I; journal = [] } → Continues I moves B ended 0 (drop 0 batches) batches
continues-start I moves B ended batches is =
    let one : Recorded = record { opening = I; journal = [] } in
    subst (λ (D : Recorded). Continues I moves D ended 0 (drop 0 batches) batches) (sym is)
    (record { same = refl; rest = refl; few = omega arith; ended_is = λ some. absurd (omega (arith, some)) })

-- the book after a batch for which there is room
taken_in : (B : Recorded) (batch : Batch) → length B.journal < batch_limit → with_entry B 0 (event.Batch batch) ≡ record B { journal = B.journal ++ entry_of (state_of B) 0 (event.Batch batch) ∷ [] }
taken_in B batch lt = rw (lt-ltb (length B.journal) batch_limit lt) refl

-- the batches that were taken are all but those that are left
taken_count : (I : Situation) (moves : ℕ) (B : Recorded) (ended : Option SearchEnd) (i : ℕ) (batches : List Batch) → i < length batches → Continues I moves B ended i (drop i batches) batches → length (batches_in B.journal) ≡ i
taken_count I moves B ended i batches lt h =
    let all : batches_in B.journal ++ drop i batches ≡ batches =
    sym (recovery-batches moves (opening I) B.journal (drop i batches))
    ∙ ap batches_in h.rest
    ∙ recovery-batches moves (opening I) [] batches in
    let both : length (batches_in B.journal) + length (drop i batches) ≡ length batches = sym (length-append (batches_in B.journal) (drop i batches)) ∙ ap length all in
    let left : length (drop i batches) ≡ length batches - i = length-drop i batches in
    omega (arith, both, left, lt)

-- once the next one is taken, it has the number that so many were taken before
pub continues-taken : (I : Situation) (moves : ℕ) (B C : Recorded) (was : Option SearchEnd) (batch : Batch) (i n : ℕ) (batches : List Batch) → i < length batches → length batches ≤ 1001
    → C ≡ with_entry B 0 (event.Batch batch) → n ≡ i → Continues I moves B was i (drop i batches) batches → length (batches_in C.journal) ≡ n + 1
continues-taken I moves B C was batch i n batches lt most taken is h =
    let entry : Entry = entry_of (state_of B) 0 (event.Batch batch) in
    let room : length B.journal < batch_limit = omega (arith, h.few, lt, most) in
    let more : batches_in C.journal ≡ batches_in B.journal ++ batches_in (entry ∷ []) =
    ap (λ (E : Recorded). batches_in E.journal) (taken ∙ taken_in B batch room)
    ∙ flat_map-append (λ (e : Entry). batch_in e.event) B.journal (entry ∷ []) in
    let one : length (batches_in (entry ∷ [])) ≡ 1 = refl in
    let count : length (batches_in C.journal) ≡ length (batches_in B.journal) + length (batches_in (entry ∷ [])) = ap length more ∙ length-append (batches_in B.journal) (batches_in (entry ∷ [])) in
    let before : length (batches_in B.journal) ≡ i = taken_count I moves B was i batches lt h in
    omega (arith, count, one, before, is)

-- the journal after a batch and its descent
abbrev descended : Situation → ℕ → List Entry → Batch → List Entry
descended I moves h batch = descent moves (opening I) (h ++ entry_of (state (opening I) h) 0 (event.Batch batch) ∷ [])

after_is : (I : Situation) (moves : ℕ) (B C D : Recorded) (batch : Batch) → B.opening ≡ I → length B.journal < batch_limit → C ≡ with_entry B 0 (event.Batch batch) → D ≡ after_descent moves C → D ≡ record { opening = I; journal = descended I moves B.journal batch }
after_is I moves B C D batch same lt taken down =
    down ∙ ap (after_descent moves) (taken ∙ taken_in B batch lt)
    ∙ ap (λ (J : Situation). let E : Recorded = record { opening = J; journal = descended J moves B.journal batch } in E) same

pub continues-next : (I : Situation) (moves : ℕ) (B C D : Recorded) (was now : Option SearchEnd) (batch : Batch) (i : ℕ) (batches : List Batch) → i < length batches → length batches ≤ 1001 → batch ≡ get_or batches i batch
    → C ≡ with_entry B 0 (event.Batch batch) → D ≡ after_descent moves C → now ≡ ending moves (state_of D) D.journal
    → Continues I moves B was i (drop i batches) batches → Continues I moves D now (i + 1) (drop (i + 1) batches) batches
unfolding recovery_after
continues-next I moves B C D was now batch i batches lt most at taken down given h =
    let left : drop i batches ≡ batch ∷ drop (i + 1) batches = rw add-one (drop-cons batches i batch lt ∙ ap (λ (x : Batch). x ∷ drop (suc i) batches) (sym at)) in
    let room : length B.journal < batch_limit = omega (arith, h.few, lt, most) in
    let is : D ≡ record { opening = I; journal = descended I moves B.journal batch } = after_is I moves B C D batch h.same room taken down in
    let journal : D.journal ≡ descended I moves B.journal batch = ap (λ (E : Recorded). E.journal) is in
    let g = B.journal ++ entry_of (state (opening I) B.journal) 0 (event.Batch batch) ∷ [] in
    let one : length g ≡ length B.journal + 1 = length-append B.journal (entry_of (state (opening I) B.journal) 0 (event.Batch batch) ∷ []) in
    let few : length (descended I moves B.journal batch) ≤ proposal_limit + (i + 1) = descent-length moves moves (proposal_limit + (i + 1)) (opening I) g (omega (arith, one, h.few)) (omega arith) in
    let length_is : length D.journal ≡ length (descended I moves B.journal batch) = ap length journal in
    record {
      same = ap (λ (E : Recorded). E.opening) is;
      rest = ap (λ (j : List Entry). recovery_after moves (opening I) j (drop (i + 1) batches)) journal
          ∙ ap (λ (bs : List Batch). recovery_after moves (opening I) B.journal bs) (sym left)
          ∙ h.rest;
      few = omega (arith, few, length_is);
      ended_is = λ some. given;
    }

pub continues-end : (I : Situation) (moves : ℕ) (B : Recorded) (search : Option SearchEnd) (i : ℕ) (batches : List Batch) → 1 ≤ length batches → length batches ≤ i → Continues I moves B search i (drop i batches) batches → IsRecoveredBook I batches moves B search
unfolding recovery_after search_end ending
continues-end I moves B search i batches some le h =
    let left : drop i batches ≡ [] = drop_of_length-le batches le in
    let journal : B.journal ≡ recovery moves (opening I) batches = ap (λ (bs : List Batch). recovery_after moves (opening I) B.journal bs) (sym left) ∙ h.rest in
    let made = λ (J : Situation) (j : List Entry). let E : Recorded = record { opening = J; journal = j } in E in
    let book : B ≡ made I (recovery moves (opening I) batches) = ap (λ (J : Situation). made J B.journal) h.same ∙ ap (made I) journal in
    record {
      history = book;
      ended = h.ended_is (omega (arith, some, le)) ∙ ap (λ (E : Recorded). ending moves (state_of E) E.journal) book;
    }

-- ---- what is written of it

outcome_is : (I : Situation) (batches : List Batch) (moves : ℕ) (B : Recorded) (search : Option SearchEnd) → IsRecoveredBook I batches moves B search → history_outcome B.opening (search_remarks search) B.journal ≡ recovered (recovery_on I batches moves)
unfolding recovered_history
outcome_is I batches moves B search h =
    ap (λ (E : Recorded). history_outcome E.opening (search_remarks search) E.journal) h.history
    ∙ ap (λ (s : Option SearchEnd). history_outcome I (search_remarks s) (recovery moves (opening I) batches)) h.ended

pub recovered-book : (before now : World) (I : Situation) (batches : List Batch) (moves : ℕ) (B : Recorded) (search : Option SearchEnd) (how : Ending) → IsRecoveredBook I batches moves B search → Completes history_files before now (history_outcome B.opening (search_remarks search) B.journal) how → Completes history_files before now (recovered (recovery_on I batches moves)) how
recovered-book before now I batches moves B search how is done = subst (λ (o : Outcome). Completes history_files before now o how) (outcome_is I batches moves B search is) done

pub tried-book : (before now : World) (I : Situation) (batches : List Batch) (moves : ℕ) (B : Recorded) (search : Option SearchEnd) (how : Ending) → IsRecoveredBook I batches moves B search → Completes [] before now (reported_alone (history_outcome B.opening (search_remarks search) B.journal)) how → Completes [] before now (tried (recovery_on I batches moves)) how
tried-book before now I batches moves B search how is done = subst (λ (o : Outcome). Completes [] before now (reported_alone o) how) (outcome_is I batches moves B search is) done

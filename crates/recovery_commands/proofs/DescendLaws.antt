-- What a book's steps come to.
use Rattle.std.proofs.Common.{◌≡◌, ℕ, zero, suc, ◌+◌, ◌-◌, ◌≤◌, Bool, true, false, List, length, refl, sym, ap, ◌∙◌, arith, [], ◌∷◌}
use Rattle.std.specs.Prelude.{Option, None, Some, is_some, find, Result, Ok, Err, IfOk, OnErr}
use Rattle.std.specs.Option.{ForSome}
use Rattle.std.proofs.lemmas.Bool.{lt-ltb}
use Rattle.std.proofs.lemmas.List.{append-nil}
use Rattle.std.proofs.lemmas.List.Concat.{flat_map-append}
use Rattle.plan_moves.specs.declared.moves.Move.{Move}
use Rattle.plan_moves.specs.Fits.{Fits}
use Rattle.desk_data.specs.declared.broken.Broken.{Broken}
use Rattle.desk_units.specs.declared.money.Grains.{Grains}
use Rattle.desk_data.specs.Situation.{Situation}
use Rattle.desk_rules.specs.Cost.{grains}
use Rattle.desk_model.specs.declared.answer.Entry.{Entry}
use Rattle.desk_model.specs.declared.answer.Event.TheVariants as event
use Rattle.desk_model.specs.States.{State, opening}
use Rattle.desk_model.specs.Histories.{state, proposal_limit, has_room, entry_of, changes}
use Rattle.desk_model.specs.Promises.{cost_of}
use Rattle.desk_model.proofs.HistoryLaws.{state-parts, state-append, askable-parts}
use Rattle.desk_model.proofs.StateLaws.{opening-inst, after-move-inst}
use Rattle.desk_core.specs.Recorded.{Recorded, state_of, with_entry}
use Rattle.near_moves.specs.Descent.{is_better, first_better, IsQuiet, end_by, is_spent, next_proposal, with_proposal, descent_of}
use Rattle.near_moves.specs.Descents.{batch_in, batches_in}
use Rattle.near_moves.proofs.ShardLaws.{shard-one}
use Rattle.near_moves.proofs.DescentLaws.{next-some, next-is, next-quiet, next-unplanned, unspent-room, descent-rests, descent-ends}
use Rattle.near_moves.specs.declared.ended.SearchEnd.TheVariants.{Quiet}
use Rattle.recovery_commands.specs.Ending.{ending, after_descent, after_steps}
use Rattle.desk_units.specs.declared.headway.Headway.{Headway}
use Rattle.recovery_commands.specs.Reached.{headway_of}
use Rattle.recovery_commands.specs.Steps.{next_of, stepped}

-- ---- what is proposed

pub first-next : (most : ℕ) (B : Recorded) → (state_of B).broken ≡ None → is_spent most B.journal ≡ false → first_better (state_of B).inst (state_of B).plan 0 1 ≡ next_of most B
first-next most B planned unspent =
    let S = state_of B in
    ap (find (is_better S.inst S.plan)) (shard-one S.inst S.plan) ∙ sym (next-is most (opening B.opening) B.journal planned unspent)

-- what can be asked at a state can be asked of the book
pub fits-book : (B : Recorded) (m : Move) → Fits (state_of B).inst m → Fits B.opening m
fits-book B m fits =
    askable-parts (state_of B).inst B.opening (event.Move m) (state-parts (opening B.opening) B.journal ∙ ap (λ (J : Situation). J.parts) (opening-inst B.opening)) fits

pub found-fits : (B : Recorded) (found : Option Move) → ForSome found (Fits (state_of B).inst) → ForSome found (Fits B.opening)
found-fits B found fits = λ m is. fits-book B m (fits m is)

pub unplanned : (most : ℕ) (B : Recorded) (b : Option Broken) → b ≡ (state_of B).broken → is_some b ≡ true → None ≡ next_of most B
unplanned most B None is some = absurd cc
unplanned most B (Some item) is some = sym (next-unplanned most (opening B.opening) B.journal item (sym is))

pub planned : (B : Recorded) (b : Option Broken) → b ≡ (state_of B).broken → is_some b ≡ false → (state_of B).broken ≡ None
planned B None is none = sym is
planned B (Some item) is none = absurd cc

pub if-ok : {X E : Type 0} (r : Result X E) (P Q : X → Type 0) → ((x : X) → P x → Q x) → IfOk r P → IfOk r Q
if-ok (Ok x) P Q less p = less x p
if-ok (Err e) P Q less p = tt

pub none-since : {X : Type 0} (o : Option X) → is_some o ≡ false → o ≡ None
none-since None none = refl
none-since (Some x) none = absurd cc

pub on-err : {X E : Type 0} (r : Result X E) (P : Type 0) → P → OnErr r P
on-err (Ok x) P p = tt
on-err (Err e) P p = p

-- ---- a step

-- there is room for what is proposed
pub step-recorded : (most : ℕ) (B : Recorded) (m : Move) → next_of most B ≡ Some m → with_entry B 0 (event.Move m) ≡ stepped most B
step-recorded most B m is =
    let next = next-some most (opening B.opening) B.journal m is in
    let room : has_room (length B.journal) (event.Move m) ≡ true = lt-ltb (length B.journal) proposal_limit (unspent-room most B.journal next.unspent) in
    rw (room, is) refl

pub step-none : (most : ℕ) (B : Recorded) → next_of most B ≡ None → B ≡ stepped most B
step-none most B is = rw is refl

-- ---- several steps

descent-add : (i k most : ℕ) (S : State) (h : List Entry) → descent_of (i + k) most S h ≡ descent_of k most S (descent_of i most S h)
unfolding descent_of
descent-add zero k most S h = ap (λ (n : ℕ). descent_of n most S h) (let e : 0 + k ≡ k = omega arith in e)
descent-add (suc i) k most S h =
    ap (λ (n : ℕ). descent_of n most S h) (let e : suc i + k ≡ suc (i + k) = omega arith in e)
    ∙ descent-add i k most S (with_proposal S h (next_proposal most S h))

descent-one : (most : ℕ) (S : State) (h : List Entry) → descent_of 1 most S h ≡ with_proposal S h (next_proposal most S h)
unfolding descent_of
descent-one most S h = refl

descent-none : (most : ℕ) (S : State) (h : List Entry) → descent_of 0 most S h ≡ h
unfolding descent_of
descent-none most S h = refl

pub begun : (most : ℕ) (B : Recorded) → B ≡ after_steps 0 most B
begun most B = ap (λ (h : List Entry). let at : Recorded = record B { journal = h } in at) (sym (descent-none most (opening B.opening) B.journal))

pub stepped-on : (i most : ℕ) (B N : Recorded) → N ≡ after_steps i most B → stepped most N ≡ after_steps (i + 1) most B
stepped-on i most B N is =
    ap (stepped most) is
    ∙ ap (λ (h : List Entry). let at : Recorded = record B { journal = h } in at)
    (sym (descent-add i 1 most (opening B.opening) B.journal ∙ descent-one most (opening B.opening) (descent_of i most (opening B.opening) B.journal)))

-- where nothing is proposed the descent is over
pub over : (i most : ℕ) (B N : Recorded) → i ≤ most → N ≡ after_steps i most B → next_of most N ≡ None → N ≡ after_descent most B
over i most B N le is none =
    let S = opening B.opening in
    let g = descent_of i most S B.journal in
    let here : next_proposal most S g ≡ None = sym (ap (next_of most) is) ∙ none in
    is
    ∙ ap (λ (h : List Entry). let at : Recorded = record B { journal = h } in at)
    (sym (ap (λ (n : ℕ). descent_of n most S B.journal) (let e : most ≡ i + (most - i) = omega arith in e) ∙ descent-add i (most - i) most S B.journal ∙ descent-rests (most - i) most S g here))

-- where nothing is proposed, a step leaves the book
pub stopped : (i most : ℕ) (B N M : Recorded) → i ≤ most → N ≡ after_steps i most B → next_of most N ≡ None → M ≡ stepped most N → M ≡ after_descent most B
stopped i most B N M le is none step = step ∙ sym (step-none most N none) ∙ over i most B N le is none

-- ---- the end

quiet_parts : (b : Option Broken) (spent : Bool) → end_by b spent ≡ Some Quiet → (b ≡ None) × (spent ≡ false)
quiet_parts None true given = absurd cc
quiet_parts None false given = (refl, refl)
quiet_parts (Some item) spent given = absurd cc

pub quiet-end : (most : ℕ) (B N : Recorded) → N ≡ after_descent most B → ending most (state_of N) N.journal ≡ Some Quiet → IsQuiet (state_of N)
unfolding ending
quiet-end most B N is given =
    let none : next_of most N ≡ None = ap (next_of most) is ∙ descent-ends most (opening B.opening) B.journal in
    let facts = quiet_parts (state_of N).broken (is_spent most N.journal) given in
    next-quiet most (opening N.opening) N.journal none facts.0 facts.1

-- ---- how far it has come

-- a proposal is no batch
with_batches : (S : State) (h : List Entry) (o : Option Move) → batches_in (with_proposal S h o) ≡ batches_in h
with_batches S h None = refl
with_batches S h (Some m) =
    let entry : Entry = entry_of (state S h) 0 (event.Move m) in
    flat_map-append (λ (e : Entry). batch_in e.event) h (entry ∷ []) ∙ append-nil (batches_in h)

steps_batches : (n most : ℕ) (S : State) (h : List Entry) → batches_in (descent_of n most S h) ≡ batches_in h
unfolding descent_of
steps_batches zero most S h = refl
steps_batches (suc n) most S h = steps_batches n most S (with_proposal S h (next_proposal most S h)) ∙ with_batches S h (next_proposal most S h)

-- after some steps of a descent the last batch is the same
pub still-batch : (i most : ℕ) (B N : Recorded) (batch : ℕ) → N ≡ after_steps i most B → length (batches_in B.journal) ≡ batch + 1 → length (batches_in N.journal) ≡ batch + 1
still-batch i most B N batch is given =
    ap (λ (E : Recorded). length (batches_in E.journal)) is
    ∙ ap length (steps_batches i most (opening B.opening) B.journal)
    ∙ given

-- ---- the day of a descent

-- a proposal leaves the instance
with_inst : (S : State) (h : List Entry) (o : Option Move) → (state S (with_proposal S h o)).inst ≡ (state S h).inst
with_inst S h None = refl
with_inst S h (Some m) =
    let entry : Entry = entry_of (state S h) 0 (event.Move m) in
    ap (λ (T : State). T.inst) (state-append S h (entry ∷ [])) ∙ after-move-inst (state S h) m

steps_inst : (n most : ℕ) (S : State) (h : List Entry) → (state S (descent_of n most S h)).inst ≡ (state S h).inst
unfolding descent_of
steps_inst zero most S h = refl
steps_inst (suc n) most S h = steps_inst n most S (with_proposal S h (next_proposal most S h)) ∙ with_inst S h (next_proposal most S h)

-- after some steps of a descent the instance is the same
pub still-inst : (i most : ℕ) (B N : Recorded) → N ≡ after_steps i most B → (state_of N).inst ≡ (state_of B).inst
still-inst i most B N is = ap (λ (E : Recorded). (state_of E).inst) is ∙ steps_inst i most (opening B.opening) B.journal

-- what is told of a book
abbrev pub told : ℕ → ℕ → Grains → Headway
told batch changed cost = record { batch = batch; changes = changed; cost = cost }

pub told-is : (B : Recorded) (batch changed : ℕ) (cost : Grains) → length (batches_in B.journal) ≡ batch + 1 → changed ≡ changes B.journal → cost ≡ grains (cost_of (state_of B)) → told batch changed cost ≡ headway_of B
told-is B batch changed cost given changed_is cost_is =
    let last : batch ≡ length (batches_in B.journal) - 1 = omega (arith, given) in
    ap (λ (n : ℕ). told n changed cost) last
    ∙ ap (λ (n : ℕ). told (length (batches_in B.journal) - 1) n cost) changed_is
    ∙ ap (told (length (batches_in B.journal) - 1) (changes B.journal)) cost_is

-- What recoveries make of histories.
use Rattle.std.proofs.Common.{◌≡◌, ℕ, zero, suc, ◌+◌, ◌-◌, ◌<◌, ◌≤◌, ◌⊎◌, inl, inr, List, [], ◌∷◌, ◌++◌, length, refl, sym, ap, subst, ◌∙◌, arith, append_assoc, length-append}
use Rattle.std.specs.Prelude.{true, false, Some, take, slice_get}
use Rattle.std.proofs.lemmas.Bool.{true≢false}
use Rattle.std.proofs.Math.Seq.{take-append_seam, take-append-add}
use Rattle.std.proofs.lemmas.List.{append-nil, take-append-le}
use Rattle.std.proofs.lemmas.List.Concat.{flat_map-append}
use Rattle.day_orders.specs.declared.orders.Batch.{Batch}
use Rattle.desk_model.specs.declared.answer.Event.TheVariants as event
use Rattle.desk_model.specs.declared.answer.Entry.{Entry}
use Rattle.desk_model.specs.States.{State, after}
use Rattle.desk_model.specs.Histories.{state, proposal_limit, is_batch, accepted_since_batch, entry_of}
use Rattle.near_moves.specs.Descent.{descent, recovery_after, recovery}
use Rattle.near_moves.specs.Descents.{IsDescentStep, AllAlong, IsRecoveryEntry, HasEnded, BatchesWait, batch_in, batches_in}
use Rattle.near_moves.proofs.DescentLaws.{next-quiet, batch-since, descent-descends, descent-length, descent-few, descent-ends}

-- ---- entries along a history

along-append : (Q : State → Entry → Type 0) (S : State) (h g : List Entry) → AllAlong Q S h → AllAlong Q (state S h) g → AllAlong Q S (h ++ g)
along-append Q S [] g all more = more
along-append Q S (entry ∷ h) g all more = (all.0, along-append Q (after S entry.event) h g all.1 more)

-- the entry of a batch after a history
abbrev batch_entry : State → List Entry → Batch → Entry
batch_entry S h B = entry_of (state S h) 0 (event.Batch B)

step_is : (S : State) (entry : Entry) → IsDescentStep S entry → IsRecoveryEntry S entry
step_is S entry step = record { asked = ap (λ (e : Entry). e.caller) step.entry_is; step = λ other. step }

steps_are : (S : State) (h : List Entry) → AllAlong IsDescentStep S h → AllAlong IsRecoveryEntry S h
steps_are S [] steps = tt
steps_are S (entry ∷ h) steps = (step_is S entry steps.0, steps_are (after S entry.event) h steps.1)

batch_is : (S : State) (h : List Entry) (B : Batch) → IsRecoveryEntry (state S h) (batch_entry S h B)
batch_is S h B = record { asked = refl; step = λ other. absurd (true≢false other) }

descent_along : (most : ℕ) (S : State) (h : List Entry) → AllAlong IsRecoveryEntry S h → AllAlong IsRecoveryEntry S (descent most S h)
descent_along most S h all =
    let down = descent-descends most most S h in
    subst (AllAlong IsRecoveryEntry S) (sym down.extends) (along-append IsRecoveryEntry S h down.added all (steps_are (state S h) down.added down.steps))

pub recovery-along : (most : ℕ) (S : State) (h : List Entry) (batches : List Batch) → AllAlong IsRecoveryEntry S h → AllAlong IsRecoveryEntry S (recovery_after most S h batches)
unfolding recovery_after
recovery-along most S h [] all = all
recovery-along most S h (B ∷ batches) all =
    let g = h ++ batch_entry S h B ∷ [] in
    recovery-along most S (descent most S g) batches
    (descent_along most S g (along-append IsRecoveryEntry S h (batch_entry S h B ∷ []) all (batch_is S h B, tt)))

-- ---- the batches

steps_bring_none : (S : State) (h : List Entry) → AllAlong IsDescentStep S h → batches_in h ≡ []
steps_bring_none S [] steps = refl
steps_bring_none S (entry ∷ h) steps =
    let none : List Batch = [] in
    let here : batch_in entry.event ≡ none = ap (λ (e : Entry). batch_in e.event) steps.0.entry_is in
    rw here (steps_bring_none (after S entry.event) h steps.1)

batches_append : (h g : List Entry) → batches_in (h ++ g) ≡ batches_in h ++ batches_in g
batches_append h g = flat_map-append (λ (entry : Entry). batch_in entry.event) h g

descent_brings_none : (most : ℕ) (S : State) (h : List Entry) → batches_in (descent most S h) ≡ batches_in h
descent_brings_none most S h =
    let down = descent-descends most most S h in
    ap batches_in down.extends ∙ batches_append h down.added
    ∙ ap (λ (bs : List Batch). batches_in h ++ bs) (steps_bring_none (state S h) down.added down.steps) ∙ append-nil (batches_in h)

pub recovery-batches : (most : ℕ) (S : State) (h : List Entry) (batches : List Batch) → batches_in (recovery_after most S h batches) ≡ batches_in h ++ batches
unfolding recovery_after
recovery-batches most S h [] = sym (append-nil (batches_in h))
recovery-batches most S h (B ∷ batches) =
    let g = h ++ batch_entry S h B ∷ [] in
    recovery-batches most S (descent most S g) batches
    ∙ ap (λ (bs : List Batch). bs ++ batches) (descent_brings_none most S g ∙ batches_append h (batch_entry S h B ∷ []))
    ∙ append_assoc (batches_in h) (B ∷ []) batches

-- ---- the length

pub recovery-length : (most b : ℕ) (S : State) (h : List Entry) (batches : List Batch) → length h ≤ b → proposal_limit ≤ b → length (recovery_after most S h batches) ≤ b + length batches
unfolding recovery_after
recovery-length most b S h [] le limit = omega arith
recovery-length most b S h (B ∷ batches) le limit =
    let g = h ++ batch_entry S h B ∷ [] in
    let one = length-append h (batch_entry S h B ∷ []) in
    let more = descent-length most most (b + 1) S g (omega (arith, one, le)) (omega (arith, limit)) in
    let rest = recovery-length most (b + 1) S (descent most S g) batches more (omega (arith, limit)) in
    omega (arith, rest)

-- ---- after each batch

-- the batches may be taken in two parts
pub recovery-parts : (most : ℕ) (S : State) (h : List Entry) (before later : List Batch) → recovery_after most S h (before ++ later) ≡ recovery_after most S (recovery_after most S h before) later
unfolding recovery_after
recovery-parts most S h [] later = refl
recovery-parts most S h (B ∷ before) later = recovery-parts most S (descent most S (h ++ batch_entry S h B ∷ [])) before later

-- what stood there before stands first
record IsLonger (h g : List Entry) : Type 0 where
  added : List Entry
  extends : g ≡ h ++ added

longer_trans : (f g h : List Entry) → IsLonger f g → IsLonger g h → IsLonger f h
longer_trans f g h one more = record {
  added = one.added ++ more.added;
  extends = more.extends ∙ ap (λ (xs : List Entry). xs ++ more.added) one.extends ∙ append_assoc f one.added more.added;
}

recovery_longer : (most : ℕ) (S : State) (h : List Entry) (batches : List Batch) → IsLonger h (recovery_after most S h batches)
unfolding recovery_after
recovery_longer most S h [] = record { added = []; extends = sym (append-nil h) }
recovery_longer most S h (B ∷ batches) =
    let g = h ++ batch_entry S h B ∷ [] in
    let down = descent-descends most most S g in
    longer_trans h g (recovery_after most S (descent most S g) batches) (record { added = batch_entry S h B ∷ []; extends = refl })
    (longer_trans g (descent most S g) (recovery_after most S (descent most S g) batches) (record { added = down.added; extends = down.extends }) (recovery_longer most S (descent most S g) batches))

first_part : (h g : List Entry) → IsLonger h g → take (length h) g ≡ h
first_part h g more = ap (take (length h)) more.extends ∙ take-append_seam h more.added

pub recovery-begins : (most : ℕ) (S : State) (before later : List Batch) → take (length (recovery most S before)) (recovery most S (before ++ later)) ≡ recovery most S before
recovery-begins most S before later =
    let h = recovery most S before in
    ap (take (length h)) (recovery-parts most S [] before later) ∙ first_part h (recovery_after most S h later) (recovery_longer most S h later)

pub recovery-descends : (most : ℕ) (S : State) (before : List Batch) (B : Batch) → recovery most S (before ++ B ∷ []) ≡ descent most S (recovery most S before ++ entry_of (state S (recovery most S before)) 0 (event.Batch B) ∷ [])
unfolding recovery_after
recovery-descends most S before B = recovery-parts most S [] before (B ∷ [])

descent_ended : (most : ℕ) (S : State) (h : List Entry) → accepted_since_batch h ≤ most → HasEnded most S (descent most S h)
descent_ended most S h few = record {
  none = descent-ends most S h;
  few = descent-few most most most S h few (omega arith);
  quiet = next-quiet most S (descent most S h) (descent-ends most S h);
}

batch_ended : (most : ℕ) (S : State) (h : List Entry) (B : Batch) → HasEnded most S (descent most S (h ++ batch_entry S h B ∷ []))
batch_ended most S h B =
    let fresh = batch-since S h B in
    descent_ended most S (h ++ batch_entry S h B ∷ []) (omega (arith, fresh))

pub recovery-ended : (most : ℕ) (S : State) (before : List Batch) (B : Batch) → HasEnded most S (recovery most S (before ++ B ∷ []))
recovery-ended most S before B =
    subst (HasEnded most S) (sym (recovery-descends most S before B)) (batch_ended most S (recovery most S before) B)

-- ---- each batch waits

get_left : (h g : List Entry) (i : ℕ) → i < length h → slice_get (h ++ g) i ≡ slice_get h i
get_left [] g i lt = absurd (omega (arith, lt))
get_left (entry ∷ h) g zero lt = refl
get_left (entry ∷ h) g (suc i) lt = get_left h g i (omega (arith, lt))

get_right : (h g : List Entry) (j : ℕ) → slice_get (h ++ g) (length h + j) ≡ slice_get g j
get_right [] g j =
    let place : 0 + j ≡ j = omega arith in
    ap (slice_get g) place
get_right (entry ∷ h) g j =
    let place : length (entry ∷ h) + j ≡ suc (length h + j) = omega arith in
    ap (slice_get (entry ∷ h ++ g)) place ∙ get_right h g j

waits_append : (most : ℕ) (S : State) (h g : List Entry) → BatchesWait most S h → ((j : ℕ) (entry : Entry) → 0 < length h + j → slice_get g j ≡ Some entry → is_batch entry.event ≡ true → HasEnded most S (h ++ take j g)) → BatchesWait most S (h ++ g)
waits_append most S h g waits more i entry some at is =
    let cases : (i < length h) ⊎ (length h ≤ i) = grind arith in
    elim cases [
      | inl left ↦
          subst (HasEnded most S) (sym (take-append-le i h g (omega (arith, left)))) (waits i entry some (sym (get_left h g i left) ∙ at) is)
      | inr right ↦
          let j = i - length h in
          let place : length h + j ≡ i = omega (arith, right) in
          let there : slice_get g j ≡ Some entry = sym (get_right h g j) ∙ ap (slice_get (h ++ g)) place ∙ at in
          subst (HasEnded most S) (sym (take-append-add h g j) ∙ ap (λ (k : ℕ). take k (h ++ g)) place) (more j entry (omega (arith, place, some)) there is)
    ]

no_batches : (S : State) (h : List Entry) (j : ℕ) (entry : Entry) → AllAlong IsDescentStep S h → slice_get h j ≡ Some entry → is_batch entry.event ≡ false
no_batches S [] j entry steps at = absurd cc
no_batches S (first ∷ h) zero entry steps at =
    let same : first ≡ entry = cc in
    ap (λ (e : Entry). is_batch e.event) (sym same ∙ steps.0.entry_is)
no_batches S (first ∷ h) (suc j) entry steps at = no_batches (after S first.event) h j entry steps.1 at

descent_waits : (most : ℕ) (S : State) (h : List Entry) → BatchesWait most S h → BatchesWait most S (descent most S h)
descent_waits most S h waits =
    let down = descent-descends most most S h in
    subst (BatchesWait most S) (sym down.extends)
    (waits_append most S h down.added waits (λ j entry some at is. absurd (true≢false (sym is ∙ no_batches (state S h) down.added j entry down.steps at))))

-- a batch may arrive: there are no entries, or a descent has ended
abbrev IsReady : ℕ → State → List Entry → Type 0
IsReady most S h = (length h ≡ 0) ⊎ HasEnded most S h

one_waits : (most : ℕ) (S : State) (h : List Entry) (first entry : Entry) (j : ℕ) → IsReady most S h → 0 < length h + j → slice_get (first ∷ []) j ≡ Some entry → HasEnded most S (h ++ take j (first ∷ []))
one_waits most S h first entry zero (inl none) some at = absurd (omega (arith, none, some))
one_waits most S h first entry zero (inr ended) some at = subst (HasEnded most S) (sym (append-nil h)) ended
one_waits most S h first entry (suc j) ready some at = absurd cc

pub recovery-waits : (most : ℕ) (S : State) (h : List Entry) (batches : List Batch) → BatchesWait most S h → IsReady most S h → BatchesWait most S (recovery_after most S h batches)
unfolding recovery_after
recovery-waits most S h [] waits ready = waits
recovery-waits most S h (B ∷ batches) waits ready =
    let entry = batch_entry S h B in
    let g = h ++ entry ∷ [] in
    let one : BatchesWait most S g = waits_append most S h (entry ∷ []) waits (λ j other some at is. one_waits most S h entry other j ready some at) in
    recovery-waits most S (descent most S g) batches (descent_waits most S g one) (inr (batch_ended most S h B))

pub recovery-all_wait : (most : ℕ) (S : State) (batches : List Batch) → BatchesWait most S (recovery most S batches)
recovery-all_wait most S batches = recovery-waits most S [] batches (λ i entry some at is. absurd cc) (inl refl)

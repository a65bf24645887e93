-- What a proposal that is found is, and what descents make of histories.
use Rattle.std.proofs.Common.{◌≡◌, ℕ, zero, suc, ◌+◌, ◌<◌, ◌≤◌, ◌⊎◌, inl, inr, Bool, true, false, cond, leb, ltb, List, [], ◌∷◌, ◌++◌, length, refl, sym, ap, subst, ◌∙◌, arith, append_assoc, length-append}
use Rattle.std.specs.Prelude.{Option, None, Some, not, ◌&&◌, is_none, filter, slice_get, count_by}
use Rattle.std.specs.List.{find, AllByRecursion}
use Rattle.std.proofs.lemmas.Bool.{cases_Bool, leb-true, leb-false, le-leb, lt-ltb, le-ltb, or_parts, or_left, true≢false}
use Rattle.std.proofs.lemmas.List.{append-nil}
use Rattle.std.proofs.lemmas.List.Sums.{sum_by-cons}
use Rattle.day_orders.specs.declared.orders.Batch.{Batch}
use Rattle.plan_moves.specs.declared.moves.Move.{Move}
use Rattle.desk_data.specs.declared.broken.Broken.{Broken}
use Rattle.desk_rules.specs.Least.{least}
use Rattle.desk_rules.specs.Cost.{cost}
use Rattle.desk_model.specs.declared.answer.Event.TheVariants as event
use Rattle.desk_model.specs.declared.answer.Entry.{Entry}
use Rattle.desk_model.specs.Steps.{after_move}
use Rattle.desk_model.specs.States.{State, verdict, move_answer, answer}
use Rattle.desk_model.specs.Histories.{state, proposal_limit, is_accepted, since_batch, accepted_since_batch, entry_of}
use Rattle.desk_model.proofs.StateLaws.{accepted-known, after-accepted}
use Rattle.desk_model.proofs.HistoryLaws.{state-append, since_is}
use Rattle.near_moves.specs.Near.{near}
use Rattle.near_moves.specs.Descent.{is_better, IsQuiet, is_spent, next_proposal, with_proposal, descent_of, descent}
use Rattle.near_moves.specs.Descents.{IsDescentStep, AllAlong, Descends}

-- ---- what is found in a list

pub find-passes : {X : Type 0} (p : X → Bool) (xs : List X) (y : X) → find p xs ≡ Some y → p y ≡ true
find-passes p [] y h = absurd cc
find-passes p (x ∷ xs) y h =
    elim (cases_Bool (p x)) [
      | inl passes ↦
          let here : Some x ≡ Some y = rw passes at h in
          let same : x ≡ y = cc in
          ap p (sym same) ∙ passes
      | inr fails ↦ find-passes p xs y (rw fails at h)
    ]

pub find-holds : {X : Type 0} (Q : X → Type 0) (p : X → Bool) (xs : List X) (y : X) → AllByRecursion Q xs → find p xs ≡ Some y → Q y
find-holds Q p [] y all h = absurd cc
find-holds Q p (x ∷ xs) y all h =
    elim (cases_Bool (p x)) [
      | inl passes ↦
          let here : Some x ≡ Some y = rw passes at h in
          let same : x ≡ y = cc in
          subst Q same all.0
      | inr fails ↦ find-holds Q p xs y all.1 (rw fails at h)
    ]

-- the first that passes is the first of all that do
pub find-first : {X : Type 0} (p : X → Bool) (xs : List X) → find p xs ≡ slice_get (filter p xs) 0
find-first p [] = refl
find-first p (x ∷ xs) =
    elim (cases_Bool (p x)) [
      | inl passes ↦ rw passes refl
      | inr fails ↦ rw fails (find-first p xs)
    ]

pub find-none : {X : Type 0} (p : X → Bool) (xs : List X) → find p xs ≡ None → filter p xs ≡ []
find-none p [] h = refl
find-none p (x ∷ xs) h =
    elim (cases_Bool (p x)) [
      | inl passes ↦ let here : Some x ≡ None = rw passes at h in absurd cc
      | inr fails ↦ rw fails (find-none p xs (rw fails at h))
    ]

-- ---- a proposal is accepted exactly where it is better

cheaper_is : (now would : ℕ) (b : Bool) → leb now would ≡ b → not b ≡ ltb would now
cheaper_is now would true dear = sym (le-ltb would now (leb-true now would dear))
cheaper_is now would false cheap = sym (lt-ltb would now (leb-false now would cheap))

verdict_is : (b : Option Broken) (now would : ℕ) → is_accepted (verdict b now would) ≡ is_none b && ltb would now
verdict_is (Some item) now would = refl
verdict_is None now would =
    elim (cases_Bool (leb now would)) [
      | inl dear ↦ rw dear (cheaper_is now would true dear)
      | inr cheap ↦ rw cheap (cheaper_is now would false cheap)
    ]

proposal_is : (S : State) (m : Move) (b : Option Broken) → is_accepted (move_answer S m b) ≡ is_none b && is_better S.inst S.plan m
unfolding is_better
proposal_is S m (Some item) = refl
proposal_is S m None =
    let Q = after_move S.inst S.plan m in
    verdict_is (least S.inst Q) (cost S.inst S.plan) (cost S.inst Q)

pub accepted-better : (S : State) (m : Move) → is_accepted (answer S (event.Move m)) ≡ is_none S.broken && is_better S.inst S.plan m
unfolding answer
accepted-better S m = proposal_is S m S.broken

-- ---- what is proposed

-- there is a plan, the history is not spent, and this is the first better move
pub record IsNext (most : ℕ) (S : State) (h : List Entry) (m : Move) : Type 0 where
  pub planned : (state S h).broken ≡ None
  pub unspent : is_spent most h ≡ false
  pub first : find (is_better (state S h).inst (state S h).plan) (near (state S h).inst (state S h).plan) ≡ Some m

some_by : (b : Option Broken) (spent : Bool) (found : Option Move) (m : Move) → cond (is_none b && not spent) found None ≡ Some m → (b ≡ None) × (spent ≡ false) × (found ≡ Some m)
some_by None false found m h = (refl, refl, h)
some_by None true found m h = absurd cc
some_by (Some item) spent found m h = absurd cc

pub next-some : (most : ℕ) (S : State) (h : List Entry) (m : Move) → next_proposal most S h ≡ Some m → IsNext most S h m
unfolding next_proposal
next-some most S h m is =
    let T = state S h in
    let facts = some_by T.broken (is_spent most h) (find (is_better T.inst T.plan) (near T.inst T.plan)) m is in
    record { planned = facts.0; unspent = facts.1; first = facts.2 }

none_by : (b : Option Broken) (spent : Bool) (found : Option Move) → cond (is_none b && not spent) found None ≡ None → b ≡ None → spent ≡ false → found ≡ None
none_by None false found h p q = h
none_by None true found h p q = absurd (true≢false q)
none_by (Some item) spent found h p q = absurd cc

-- where there is nothing more to propose, a plan is quiet unless the history is spent
pub next-quiet : (most : ℕ) (S : State) (h : List Entry) → next_proposal most S h ≡ None → (state S h).broken ≡ None → is_spent most h ≡ false → IsQuiet (state S h)
unfolding next_proposal
next-quiet most S h none planned unspent =
    let T = state S h in
    record {
      planned = planned;
      none = find-none (is_better T.inst T.plan) (near T.inst T.plan) (none_by T.broken (is_spent most h) (find (is_better T.inst T.plan) (near T.inst T.plan)) none planned unspent);
    }

pub next-unplanned : (most : ℕ) (S : State) (h : List Entry) (item : Broken) → (state S h).broken ≡ Some item → next_proposal most S h ≡ None
unfolding next_proposal
next-unplanned most S h item is = rw is refl

pub next-spent : (most : ℕ) (S : State) (h : List Entry) → is_spent most h ≡ true → next_proposal most S h ≡ None
unfolding next_proposal
next-spent most S h spent =
    elim (state S h).broken as (λ b. cond (is_none b && not (is_spent most h)) (find (is_better (state S h).inst (state S h).plan) (near (state S h).inst (state S h).plan)) None ≡ None) [
      | None ↦ rw spent refl
      | Some item ↦ refl
    ]

pub next-is : (most : ℕ) (S : State) (h : List Entry) → (state S h).broken ≡ None → is_spent most h ≡ false → next_proposal most S h ≡ find (is_better (state S h).inst (state S h).plan) (near (state S h).inst (state S h).plan)
unfolding next_proposal
next-is most S h planned unspent = rw (planned, unspent) refl

unspent_parts : (most : ℕ) (h : List Entry) → is_spent most h ≡ false → (leb most (accepted_since_batch h) ≡ false) × (leb proposal_limit (length h) ≡ false)
unfolding is_spent
unspent_parts most h unspent = or_parts (leb most (accepted_since_batch h)) (leb proposal_limit (length h)) unspent

-- of what may be accepted since a batch something is left
unspent-few : (most : ℕ) (h : List Entry) → is_spent most h ≡ false → accepted_since_batch h < most
unspent-few most h unspent = leb-false most (accepted_since_batch h) (unspent_parts most h unspent).0

-- a history that is not spent takes a proposal
pub unspent-room : (most : ℕ) (h : List Entry) → is_spent most h ≡ false → length h < proposal_limit
unspent-room most h unspent = leb-false proposal_limit (length h) (unspent_parts most h unspent).1

pub spent-once : (most : ℕ) (h : List Entry) → most ≤ accepted_since_batch h → is_spent most h ≡ true
unfolding is_spent
spent-once most h many = or_left (leb most (accepted_since_batch h)) (leb proposal_limit (length h)) (le-leb most (accepted_since_batch h) many)

-- ---- a step

-- the entry of the proposal that is found
abbrev pub step_entry : State → List Entry → Move → Entry
step_entry S h m = entry_of (state S h) 0 (event.Move m)

pub step-accepted : (most : ℕ) (S : State) (h : List Entry) (m : Move) → IsNext most S h m → is_accepted (answer (state S h) (event.Move m)) ≡ true
step-accepted most S h m next =
    let T = state S h in
    let passes : is_better T.inst T.plan m ≡ true = find-passes (is_better T.inst T.plan) (near T.inst T.plan) m next.first in
    accepted-better T m ∙ rw (next.planned, passes) refl

step_is : (most : ℕ) (S : State) (h : List Entry) (m : Move) → IsNext most S h m → IsDescentStep (state S h) (step_entry S h m)
step_is most S h m next = record { move = m; planned = next.planned; first = next.first; entry_is = refl; accepted = step-accepted most S h m next }

-- the state after it: the move is published
pub step-state : (most : ℕ) (S : State) (h : List Entry) (m : Move) → IsNext most S h m → state S (h ++ step_entry S h m ∷ []) ≡ record { inst = (state S h).inst; plan = after_move (state S h).inst (state S h).plan m; broken = None }
step-state most S h m next =
    let T = state S h in
    let given = accepted-known (answer T (event.Move m)) (step-accepted most S h m next) in
    state-append S h (step_entry S h m ∷ []) ∙ after-accepted T m given.0 given.1

-- one more was accepted
pub step-since : (most : ℕ) (S : State) (h : List Entry) (m : Move) → IsNext most S h m → accepted_since_batch (h ++ step_entry S h m ∷ []) ≡ accepted_since_batch h + 1
step-since most S h m next =
    let entry = step_entry S h m in
    ap (count_by (λ (e : Entry). is_accepted e.answer)) (since_is h entry)
    ∙ sum_by-cons (λ (e : Entry). cond (is_accepted e.answer) 1 0) entry (since_batch h)
    ∙ rw (step-accepted most S h m next) (omega arith)

-- after a batch none was accepted yet
pub batch-since : (S : State) (h : List Entry) (B : Batch) → accepted_since_batch (h ++ entry_of (state S h) 0 (event.Batch B) ∷ []) ≡ 0
batch-since S h B = ap (count_by (λ (e : Entry). is_accepted e.answer)) (since_is h (entry_of (state S h) 0 (event.Batch B)))

-- ---- several steps

-- nothing is added once nothing is proposed
pub descent-rests : (n most : ℕ) (S : State) (h : List Entry) → next_proposal most S h ≡ None → descent_of n most S h ≡ h
unfolding descent_of
descent-rests zero most S h none = refl
descent-rests (suc n) most S h none = ap (λ (o : Option Move). descent_of n most S (with_proposal S h o)) none ∙ descent-rests n most S h none

descends_from : (most : ℕ) (S : State) (h g : List Entry) (o : Option Move) → next_proposal most S h ≡ o → Descends S (with_proposal S h o) g → Descends S h g
descends_from most S h g None is more = more
descends_from most S h g (Some m) is more =
    let entry = step_entry S h m in
    record {
      added = entry ∷ more.added;
      extends = more.extends ∙ append_assoc h (entry ∷ []) more.added;
      steps = (step_is most S h m (next-some most S h m is), subst (λ (T : State). AllAlong IsDescentStep T more.added) (state-append S h (entry ∷ [])) more.steps);
    }

pub descent-descends : (n most : ℕ) (S : State) (h : List Entry) → Descends S h (descent_of n most S h)
unfolding descent_of
descent-descends zero most S h = record { added = []; extends = sym (append-nil h); steps = tt }
descent-descends (suc n) most S h =
    descends_from most S h (descent_of n most S (with_proposal S h (next_proposal most S h))) (next_proposal most S h) refl (descent-descends n most S (with_proposal S h (next_proposal most S h)))

pub descent-unplanned : (n most : ℕ) (S : State) (h : List Entry) (item : Broken) → (state S h).broken ≡ Some item → descent_of n most S h ≡ h
descent-unplanned n most S h item is = descent-rests n most S h (next-unplanned most S h item is)

length_step : (most b : ℕ) (S : State) (h : List Entry) (o : Option Move) → next_proposal most S h ≡ o → length h ≤ b → proposal_limit ≤ b → length (with_proposal S h o) ≤ b
length_step most b S h None is le limit = le
length_step most b S h (Some m) is le limit =
    let next = next-some most S h m is in
    omega (arith, unspent-room most h next.unspent, length-append h (step_entry S h m ∷ []))

pub descent-length : (n most b : ℕ) (S : State) (h : List Entry) → length h ≤ b → proposal_limit ≤ b → length (descent_of n most S h) ≤ b
unfolding descent_of
descent-length zero most b S h le limit = le
descent-length (suc n) most b S h le limit =
    descent-length n most b S (with_proposal S h (next_proposal most S h)) (length_step most b S h (next_proposal most S h) refl le limit) limit

few_step : (most b : ℕ) (S : State) (h : List Entry) (o : Option Move) → next_proposal most S h ≡ o → accepted_since_batch h ≤ b → most ≤ b → accepted_since_batch (with_proposal S h o) ≤ b
few_step most b S h None is few limit = few
few_step most b S h (Some m) is few limit =
    let next = next-some most S h m is in
    omega (arith, unspent-few most h next.unspent, step-since most S h m next, limit)

-- no more are accepted since a batch than there were, or than may be
pub descent-few : (n most b : ℕ) (S : State) (h : List Entry) → accepted_since_batch h ≤ b → most ≤ b → accepted_since_batch (descent_of n most S h) ≤ b
unfolding descent_of
descent-few zero most b S h few limit = few
descent-few (suc n) most b S h few limit =
    descent-few n most b S (with_proposal S h (next_proposal most S h)) (few_step most b S h (next_proposal most S h) refl few limit) limit

planned_step : (most : ℕ) (S : State) (h : List Entry) (o : Option Move) → next_proposal most S h ≡ o → (state S h).broken ≡ None → (state S (with_proposal S h o)).broken ≡ None
planned_step most S h None is planned = planned
planned_step most S h (Some m) is planned = ap (λ (T : State). T.broken) (step-state most S h m (next-some most S h m is))

pub descent-planned : (n most : ℕ) (S : State) (h : List Entry) → (state S h).broken ≡ None → (state S (descent_of n most S h)).broken ≡ None
unfolding descent_of
descent-planned zero most S h planned = planned
descent-planned (suc n) most S h planned =
    descent-planned n most S (with_proposal S h (next_proposal most S h)) (planned_step most S h (next_proposal most S h) refl planned)

-- ---- the end

-- after n rounds nothing is proposed, or n more were accepted
abbrev IsFar : ℕ → ℕ → State → List Entry → List Entry → Type 0
IsFar n most S h g = (next_proposal most S g ≡ None) ⊎ (accepted_since_batch h + n ≤ accepted_since_batch g)

far_step : (n most : ℕ) (S : State) (h : List Entry) (o : Option Move) → next_proposal most S h ≡ o → IsFar n most S (with_proposal S h o) (descent_of n most S (with_proposal S h o)) → IsFar (suc n) most S h (descent_of n most S (with_proposal S h o))
far_step n most S h None is far = inl (ap (next_proposal most S) (descent-rests n most S h is) ∙ is)
far_step n most S h (Some m) is far =
    let one = step-since most S h m (next-some most S h m is) in
    elim far [
      | inl none ↦ inl none
      | inr many ↦ inr (omega (arith, many, one))
    ]

far : (n most : ℕ) (S : State) (h : List Entry) → IsFar n most S h (descent_of n most S h)
unfolding descent_of
far zero most S h = inr (omega arith)
far (suc n) most S h =
    far_step n most S h (next_proposal most S h) refl (far n most S (with_proposal S h (next_proposal most S h)))

pub descent-ends : (most : ℕ) (S : State) (h : List Entry) → next_proposal most S (descent most S h) ≡ None
descent-ends most S h =
    elim (far most most S h) [
      | inl none ↦ none
      | inr many ↦ next-spent most S (descent most S h) (spent-once most (descent most S h) (omega (arith, many)))
    ]

pub descent-quiet : (most : ℕ) (S : State) (h : List Entry) → (state S h).broken ≡ None → is_spent most (descent most S h) ≡ false → IsQuiet (state S (descent most S h))
descent-quiet most S h planned unspent =
    next-quiet most S (descent most S h) (descent-ends most S h) (descent-planned most most S h planned) unspent

-- What holds of histories.
use Rattle.std.proofs.Common.{◌≡◌, ◌↔◌, ℕ, zero, suc, ◌+◌, ◌-◌, ◌<◌, ◌≤◌, ◌⊎◌, inl, inr, Bool, true, false, cond, List, [], ◌∷◌, ◌++◌, length, take, drop, refl, sym, ap, subst, ◌∙◌, arith, append_assoc, length-append}
use Rattle.std.specs.Prelude.{None, Some, not, slice_get, take_while, reverse}
use Rattle.std.specs.List.{AllByRecursion}
use Rattle.std.specs.Option.{ForSome}
use Rattle.std.proofs.lemmas.Bool.{cases_Bool}
use Rattle.std.proofs.lemmas.Option.{slice_get_within, get_or_from_slice_get, slice_get-get_or}
use Rattle.std.proofs.lemmas.List.{take_more, take-take, take-append-drop, take-append-le, append-nil, take_all, reverse-append}
use Rattle.std.proofs.lemmas.List.Sums.{count_by_more_no, count_by_more_yes, take_while-cons}
use Rattle.std.proofs.Math.ListN.{get_or-append}
use Rattle.std.proofs.Math.Seq.{get_or-append_seam}
use Rattle.std.proofs.lemmas.List.Elements.{recursion_from_All, All-weaker}
use Rattle.plan_moves.specs.declared.moves.Move.{Move}
use Rattle.plan_moves.specs.declared.moves.Step.{Step}
use Rattle.plan_moves.specs.declared.moves.Step.TheVariants as step
use Rattle.plan_moves.specs.Fits.{StepFits, IsPathIn}
use Rattle.day_orders.specs.declared.orders.Order.{Order}
use Rattle.day_orders.specs.declared.orders.Batch.{Batch}
use Rattle.desk_data.specs.declared.parts.Parts.{Parts}
use Rattle.desk_data.specs.declared.row.Row.{Row}
use Rattle.desk_data.specs.Valid.{IsBatch, IsRowOf}
use Rattle.desk_data.proofs.BatchLaws.{with_batch-orders}
use Rattle.desk_units.specs.declared.money.Grains.{Grains}
use Rattle.desk_data.specs.declared.broken.Broken.{Broken}
use Rattle.desk_data.specs.Progress.{with_batch}
use Rattle.desk_data.specs.Situation.{Situation, frozen_at, legs_of, now_of}
use Rattle.desk_rules.specs.Cost.{grains}
use Rattle.desk_rules.proofs.LeastLaws.{feasible-holds, feasible-from, least-holds}
use Rattle.desk_model.specs.declared.answer.Answer.TheVariants.{Taken, Accepted, Breaks, Dearer, NoPlan}
use Rattle.desk_model.specs.declared.fallbacks.Which.{Which}
use Rattle.desk_model.specs.declared.answer.Event.{Event}
use Rattle.desk_model.specs.declared.answer.Event.TheVariants as event
use Rattle.desk_model.specs.declared.answer.Entry.{Entry}
use Rattle.desk_model.specs.Steps.{after_move}
use Rattle.desk_model.specs.States.{State, opening, fallback_on, answer, after}
use Rattle.desk_model.specs.Histories.{state, has_room, IsAskable, AreAskable, Stands, IsLegal, is_batch, is_accepted, is_change, changes, since_batch, orders_in, orders_of, moment_behind, has_no_moment, TellsNoMoment, entry_of, entries, run}
use Rattle.desk_model.specs.Promises.{state_at, cost_of, IsHonest, Improves, IsTakenIn, HadNoPlan, BreaksFirst, IsDearer, IsKept, AreProposals, KeepsPromises}
use Rattle.desk_model.specs.Fallback.{grounded, rows_of, rows_named}
use Rattle.desk_model.specs.Batches.{AnswersBatch}
use Rattle.desk_model.proofs.BatchLaws.{answers_batch, rows_of_name, rows_left}
use Rattle.desk_model.proofs.StateLaws.{accepted-cause, accepted-from, batch-not-accepted, batch-priced, batch-published, batch-unplanned, move-not-taken, move-unplanned, move-broken, dearer-cause, after-batch-inst, after-batch-plan, KnowsBroken, after-known, opening-known, after-move-inst, after-parts, after-now, after-progress, after-frozen, after-unchanged, after-accepted, accepted-known, after-falls}

-- ---- the state after a history

pub state-append : (S : State) (h g : List Entry) → state S (h ++ g) ≡ state (state S h) g
state-append S [] g = refl
state-append S (entry ∷ h) g = state-append (after S entry.event) h g

pub state-known : (S : State) (h : List Entry) → KnowsBroken S → KnowsBroken (state S h)
state-known S [] stated = stated
state-known S (entry ∷ h) stated = state-known (after S entry.event) h (after-known S entry.event stated)

-- a history leaves the joined rows
pub state-parts : (S : State) (h : List Entry) → (state S h).inst.parts ≡ S.inst.parts
state-parts S [] = refl
state-parts S (entry ∷ h) = state-parts (after S entry.event) h ∙ after-parts S entry.event

after_orders : (S : State) (e : Event) → (after S e).inst.orders ≡ S.inst.orders ++ orders_in e
after_orders S (event.Batch B) = ap (λ (J : Situation). J.orders) (after-batch-inst S B) ∙ with_batch-orders S.inst S.plan B
after_orders S (event.Move m) = ap (λ (J : Situation). J.orders) (after-move-inst S m) ∙ sym (append-nil S.inst.orders)

-- and takes the day on to the latest moment of its batches
pub state-now : (S : State) (h : List Entry) → now_of (state S h).inst ≡ moment_behind (now_of S.inst) h
state-now S [] = refl
state-now S (entry ∷ h) = state-now (after S entry.event) h ∙ ap (λ (now : ℕ). moment_behind now h) (after-now S entry.event)

-- where none tells a moment, nothing leaves
state_progress : (S : State) (h : List Entry) → AllByRecursion (λ entry. has_no_moment entry.event ≡ true) h → (state S h).inst.progress ≡ S.inst.progress
state_progress S [] none = refl
state_progress S (entry ∷ h) none = state_progress (after S entry.event) h none.1 ∙ after-progress S entry.event none.0

pub state-progress : (S : State) (h : List Entry) → TellsNoMoment h → (state S h).inst.progress ≡ S.inst.progress
state-progress S h none = state_progress S h (recursion_from_All (λ entry. has_no_moment entry.event ≡ true) h none)

-- what is frozen stays so
pub state-frozen : (S : State) (h : List Entry) (x : ℕ) (row : Row) → x < legs_of S.inst → frozen_at S.inst x ≡ Some row → frozen_at (state S h).inst x ≡ Some row
state-frozen S [] x row within is = is
state-frozen S (entry ∷ h) x row within is =
    state-frozen (after S entry.event) h x row (subst (λ (p : Parts). x < length p.legs) (sym (after-parts S entry.event)) within) (after-frozen S entry.event x row within is)

-- from one place of a history to each later one
pub frozen-along : (S : State) (h : List Entry) (i j x : ℕ) (row : Row) → x < legs_of S.inst → i ≤ j → frozen_at (state S (take i h)).inst x ≡ Some row → frozen_at (state S (take j h)).inst x ≡ Some row
frozen-along S h i j x row within le is =
    let first = state S (take i h) in
    let more = drop i (take j h) in
    let whole : take j h ≡ take i h ++ more = sym (take-append-drop i (take j h)) ∙ ap (λ (front : List Entry). front ++ more) (take-take i j h le) in
    let there : x < legs_of first.inst = subst (λ (p : Parts). x < length p.legs) (sym (state-parts S (take i h))) within in
    ap (λ (t : List Entry). frozen_at (state S t).inst x) whole
    ∙ ap (λ (T : State). frozen_at T.inst x) (state-append S (take i h) more)
    ∙ state-frozen first more x row there is

-- the orders are those that there were, and after them those of the history's batches
pub state-orders : (S : State) (h : List Entry) → (state S h).inst.orders ≡ S.inst.orders ++ orders_of h
state-orders S [] = sym (append-nil S.inst.orders)
state-orders S (entry ∷ h) =
    state-orders (after S entry.event) h
    ∙ ap (λ (os : List Order). os ++ orders_of h) (after_orders S entry.event)
    ∙ append_assoc S.inst.orders (orders_in entry.event) (orders_of h)

-- the entry at i is the next after the first i
pub take-next : (h : List Entry) (i : ℕ) (entry : Entry) → slice_get h i ≡ Some entry → take (i + 1) h ≡ take i h ++ entry ∷ []
take-next h i entry at =
    take_more h i entry (slice_get_within h i entry at)
    ∙ ap (λ (e : Entry). take i h ++ e ∷ []) (get_or_from_slice_get h i entry entry at)

pub state-next : (S : State) (h : List Entry) (i : ℕ) (entry : Entry) → slice_get h i ≡ Some entry → state S (take (i + 1) h) ≡ after (state S (take i h)) entry.event
state-next S h i entry at = ap (state S) (take-next h i entry at) ∙ state-append S (take i h) (entry ∷ [])

-- ---- an entry of a legal history

kept_taken : (S : State) (entry : Entry) (B : Batch) → entry.event ≡ event.Batch B → entry.answer ≡ answer S entry.event → IsTakenIn S B entry.answer (after S entry.event)
kept_taken S entry B is by =
    let orders : (after S entry.event).inst ≡ with_batch S.inst S.plan B = ap (λ (e : Event). (after S e).inst) is ∙ after-batch-inst S B in
    let rows : (after S entry.event).plan ≡ rows_of (fallback_on S B) = ap (λ (e : Event). (after S e).plan) is ∙ after-batch-plan S B in
    let given : entry.answer ≡ answer S (event.Batch B) = by ∙ ap (answer S) is in
    record {
      orders = orders;
      answered = subst (λ (J : Situation). AnswersBatch J S.plan entry.answer) (sym orders) (subst (AnswersBatch (with_batch S.inst S.plan B) S.plan) (sym given) (answers_batch S B));
      rows = rows;
      named = λ which price h. rows ∙ rows_of_name S B which price (sym given ∙ h) ∙ ap (λ (J : Situation). rows_named J S.plan which) (sym orders);
      left = λ item h. rows ∙ rows_left S B item (sym given ∙ h) ∙ ap (λ (J : Situation). grounded J S.plan) (sym orders);
    }

kept_priced : (S : State) (entry : Entry) (e : Event) (which : Which) (stated : Grains) → entry.event ≡ e → entry.answer ≡ answer S entry.event → entry.answer ≡ Taken which stated → (stated ≡ grains (cost_of (after S entry.event))) × ((after S entry.event).broken ≡ None)
kept_priced S entry (event.Batch B) which stated is by h =
    let own : answer S (event.Batch B) ≡ Taken which stated = sym (by ∙ ap (answer S) is) ∙ h in
    (batch-priced S B which stated own ∙ ap (λ (e : Event). grains (cost_of (after S e))) (sym is), ap (λ (e : Event). (after S e).broken) is ∙ batch-published S B which stated own)
kept_priced S entry (event.Move m) which stated is by h = absurd (move-not-taken S m which stated (sym (by ∙ ap (answer S) is) ∙ h))

kept_unmoved : (S : State) (entry : Entry) (m : Move) (item : Broken) → entry.event ≡ event.Move m → entry.answer ≡ answer S entry.event → entry.answer ≡ NoPlan item → HadNoPlan S item (after S entry.event)
kept_unmoved S entry m item is by h =
    let own : answer S (event.Move m) ≡ NoPlan item = sym (by ∙ ap (answer S) is) ∙ h in
    record { had = move-unplanned S m item own; stays = ap (after S) is ∙ after-unchanged S (event.Move m) (ap is_accepted own) }

kept_unplanned : (S : State) (entry : Entry) (e : Event) (item : Broken) → entry.event ≡ e → entry.answer ≡ answer S entry.event → entry.answer ≡ NoPlan item → (after S entry.event).broken ≡ Some item
kept_unplanned S entry (event.Batch B) item is by h = ap (λ (e : Event). (after S e).broken) is ∙ batch-unplanned S B item (sym (by ∙ ap (answer S) is) ∙ h)
kept_unplanned S entry (event.Move m) item is by h =
    let same = kept_unmoved S entry m item is by h in
    ap (λ (T : State). T.broken) same.stays ∙ same.had

kept_breaking : (S : State) (entry : Entry) (m : Move) (item : Broken) → entry.event ≡ event.Move m → entry.answer ≡ answer S entry.event → entry.answer ≡ Breaks item → BreaksFirst S m item
kept_breaking S entry m item is by h =
    let cause = move-broken S m item (sym (by ∙ ap (answer S) is) ∙ h) in
    record { had = cause.0; least = least-holds _ _ item cause.1 }

kept_dearer : (S : State) (entry : Entry) (m : Move) (now would : Grains) → entry.event ≡ event.Move m → entry.answer ≡ answer S entry.event → entry.answer ≡ Dearer now would → IsDearer S m now would
kept_dearer S entry m now would is by h =
    let cause = dearer-cause S m now would (sym (by ∙ ap (answer S) is) ∙ h) in
    record { had = cause.had_plan; feasible = feasible-holds _ _ cause.feasible; no_cheaper = cause.dearer; now_costs = cause.now_costs; would_cost = cause.would_cost }

kept_accepted : (S : State) (entry : Entry) (m : Move) → entry.event ≡ event.Move m → entry.answer ≡ answer S entry.event → S.broken ≡ None → is_accepted entry.answer ≡ true ↔ Improves S m
kept_accepted S entry m is stated had = (
  (λ accepted.
      let by = accepted-known entry.answer accepted in
      let cause = accepted-cause S m by.0 (sym (stated ∙ ap (answer S) is) ∙ by.1) in
      record { feasible = feasible-holds _ _ cause.feasible; cheaper = cause.cheaper }),
  (λ better. ap is_accepted (stated ∙ ap (answer S) is ∙ accepted-from S m had (feasible-from _ _ better.feasible) better.cheaper)),
)

kept_stored : (S : State) (entry : Entry) (e : Event) (stated : Grains) → entry.event ≡ e → entry.answer ≡ answer S entry.event → entry.answer ≡ Accepted stated → (stated ≡ grains (cost_of (after S entry.event))) × (cost_of (after S entry.event) < cost_of S)
kept_stored S entry (event.Batch B) stated is by h = absurd (batch-not-accepted S B stated (sym (by ∙ ap (answer S) is) ∙ h))
kept_stored S entry (event.Move m) stated is by h =
    let cause = accepted-cause S m stated (sym (by ∙ ap (answer S) is) ∙ h) in
    let there = ap (after S) is ∙ after-accepted S m stated (sym (by ∙ ap (answer S) is) ∙ h) in
    rw there (cause.stored, cause.cheaper)

kept_moved : (S : State) (entry : Entry) (m : Move) → entry.event ≡ event.Move m → entry.answer ≡ answer S entry.event → is_accepted entry.answer ≡ true → ((after S entry.event).inst ≡ S.inst) × ((after S entry.event).plan ≡ after_move S.inst S.plan m) × ((after S entry.event).broken ≡ None)
kept_moved S entry m is stated accepted =
    let by = accepted-known entry.answer accepted in
    let there = ap (after S) is ∙ after-accepted S m by.0 (sym (stated ∙ ap (answer S) is) ∙ by.1) in
    (ap (λ (T : State). T.inst) there, ap (λ (T : State). T.plan) there, ap (λ (T : State). T.broken) there)

pub kept : (S : State) (entry : Entry) → entry.answer ≡ answer S entry.event → IsKept S entry (after S entry.event)
kept S entry stated = record {
  taken = λ B is. kept_taken S entry B is stated;
  priced = λ which cost is. kept_priced S entry entry.event which cost refl stated is;
  unplanned = λ item is. kept_unplanned S entry entry.event item refl stated is;
  unmoved = λ m item is no_plan. kept_unmoved S entry m item is stated no_plan;
  breaking = λ m item is breaks. kept_breaking S entry m item is stated breaks;
  dearer = λ m now would is dear. kept_dearer S entry m now would is stated dear;
  accepted = λ m is had. kept_accepted S entry m is stated had;
  stored = λ cost is. kept_stored S entry entry.event cost refl stated is;
  moved_to = λ m is accepted. kept_moved S entry m is stated accepted;
  refused = λ change. after-unchanged S entry.event (ap (is_change entry.event) (sym stated) ∙ change);
}

-- ---- prefixes

pub entry_at : (h : List Entry) (i : ℕ) → i < length h → (entry : Entry) × (slice_get h i ≡ Some entry)
entry_at [] i lt = absurd (omega arith)
entry_at (e ∷ h) zero lt = (e, refl)
entry_at (e ∷ h) (suc i) lt = entry_at h i (omega arith)

-- no proposal makes the rows dearer
falls_step : (S : State) (h : List Entry) (k : ℕ) → ((entry : Entry) → slice_get h k ≡ Some entry → is_batch entry.event ≡ false) → cost_of (state S (take (k + 1) h)) ≤ cost_of (state S (take k h))
falls_step S h k proposal =
    let cases : (k < length h) ⊎ (length h ≤ k) = grind arith in
    elim cases [
      | inl within ↦
          let at = entry_at h k within in
          subst (λ (T : State). cost_of T ≤ cost_of (state S (take k h))) (sym (state-next S h k at.0 at.1)) (after-falls (state S (take k h)) at.0.event (proposal at.0 at.1))
      | inr past ↦
          let here : take (k + 1) h ≡ take k h = take_all (k + 1) h (omega (arith, past)) ∙ sym (take_all k h past) in
          rw here (omega arith)
    ]

falls_along : (S : State) (h : List Entry) (i n : ℕ) → AreProposals h i (i + n) → cost_of (state S (take (i + n) h)) ≤ cost_of (state S (take i h))
falls_along S h i zero proposals = subst (λ (j : ℕ). cost_of (state S (take j h)) ≤ cost_of (state S (take i h))) (let e : i ≡ i + 0 = omega arith in e) (omega arith)
falls_along S h i (suc n) proposals =
    let before : AreProposals h i (i + n) = λ k entry low high at. proposals k entry low (omega (arith, high)) at in
    let last : (entry : Entry) → slice_get h (i + n) ≡ Some entry → is_batch entry.event ≡ false = λ entry at. proposals (i + n) entry (omega arith) (omega arith) at in
    let more = falls_step S h (i + n) last in
    let less = falls_along S h i n before in
    subst (λ (j : ℕ). cost_of (state S (take j h)) ≤ cost_of (state S (take i h))) (let e : i + n + 1 ≡ i + suc n = omega arith in e) (omega (arith, more, less))

-- where no batch stands between, costs only fall
prefix-falls : (S : State) (h : List Entry) (i j : ℕ) → i ≤ j → AreProposals h i j → cost_of (state S (take j h)) ≤ cost_of (state S (take i h))
prefix-falls S h i j le proposals =
    let n : i + (j - i) ≡ j = omega (arith, le) in
    subst (λ (k : ℕ). cost_of (state S (take k h)) ≤ cost_of (state S (take i h))) n (falls_along S h i (j - i) (subst (AreProposals h i) (sym n) proposals))

changes_step : (h : List Entry) (i : ℕ) (entry : Entry) (b : Bool) → slice_get h i ≡ Some entry → is_change entry.event entry.answer ≡ b → changes (take (i + 1) h) ≡ changes (take i h) + cond b 1 0
changes_step h i entry true at is =
    count_by_more_yes (λ (e : Entry). is_change e.event e.answer) h i entry (slice_get_within h i entry at) (ap (λ (e : Entry). is_change e.event e.answer) (get_or_from_slice_get h i entry entry at) ∙ is)
changes_step h i entry false at is =
    let step = count_by_more_no (λ (e : Entry). is_change e.event e.answer) h i entry (slice_get_within h i entry at) (ap (λ (e : Entry). is_change e.event e.answer) (get_or_from_slice_get h i entry entry at) ∙ is) in
    omega (arith, step)

-- no entry has fewer changes after it than before it
changes_rise : (h : List Entry) (i : ℕ) → i < length h → changes (take i h) ≤ changes (take (i + 1) h)
changes_rise h i lt =
    let at = entry_at h i lt in
    let step = changes_step h i at.0 (is_change at.0.event at.0.answer) at.1 refl in
    omega (arith, step)

changes_grow : (h : List Entry) (i n : ℕ) → i + n ≤ length h → changes (take i h) ≤ changes (take (i + n) h)
changes_grow h i zero le = subst (λ (j : ℕ). changes (take i h) ≤ changes (take j h)) (let e : i ≡ i + 0 = omega arith in e) (omega arith)
changes_grow h i (suc n) le =
    let here : i + n < length h = omega arith in
    let more = changes_rise h (i + n) here in
    let less = changes_grow h i n (omega arith) in
    subst (λ (j : ℕ). changes (take i h) ≤ changes (take j h)) (let e : i + n + 1 ≡ i + suc n = omega arith in e) (omega (arith, more, less))

same_step : (S : State) (h : List Entry) (i : ℕ) → IsLegal S h → i < length h → changes (take (i + 1) h) ≡ changes (take i h) → state S (take i h) ≡ state S (take (i + 1) h)
same_step S h i legal lt same =
    let at = entry_at h i lt in
    let step = changes_step h i at.0 (is_change at.0.event at.0.answer) at.1 refl in
    elim (cases_Bool (is_change at.0.event at.0.answer)) [
      | inl change ↦ let none : changes (take (i + 1) h) ≡ changes (take i h) + 1 = step ∙ ap (λ (b : Bool). changes (take i h) + cond b 1 0) change in absurd (omega (arith, none, same))
      | inr stays ↦ sym (state-next S h i at.0 at.1 ∙ after-unchanged (state S (take i h)) at.0.event (ap (is_change at.0.event) (sym (legal i at.0 at.1).answered) ∙ stays))
    ]

same_state : (S : State) (h : List Entry) (i n : ℕ) → IsLegal S h → i + n ≤ length h → changes (take i h) ≡ changes (take (i + n) h) → state S (take i h) ≡ state S (take (i + n) h)
same_state S h i zero legal le same = ap (λ (j : ℕ). state S (take j h)) (let e : i ≡ i + 0 = omega arith in e)
same_state S h i (suc n) legal le same =
    let last : i + suc n ≡ i + n + 1 = omega arith in
    let here : i + n < length h = omega arith in
    let up = changes_rise h (i + n) here in
    let low = changes_grow h i n (omega arith) in
    let whole : changes (take i h) ≡ changes (take (i + n + 1) h) = same ∙ ap (λ (j : ℕ). changes (take j h)) last in
    let first : changes (take i h) ≡ changes (take (i + n) h) = omega (arith, up, low, whole) in
    let second : changes (take (i + n + 1) h) ≡ changes (take (i + n) h) = omega (arith, first, whole) in
    same_state S h i n legal (omega arith) first ∙ same_step S h (i + n) legal here second ∙ ap (λ (j : ℕ). state S (take j h)) (sym last)

-- ---- the promises

known_is_honest : (S : State) → KnowsBroken S → IsHonest S
known_is_honest S stated = record {
  published = λ none. feasible-holds S.inst S.plan (sym stated ∙ none);
  unpublished = λ item is. least-holds S.inst S.plan item (sym stated ∙ is);
}

pub legal-kept : (S : State) (h : List Entry) → IsLegal S h → (i : ℕ) (entry : Entry) → slice_get h i ≡ Some entry → IsKept (state S (take i h)) entry (state S (take (i + 1) h))
legal-kept S h legal i entry at =
    subst (λ (T : State). IsKept (state S (take i h)) entry T) (sym (state-next S h i entry at)) (kept (state S (take i h)) entry (legal i entry at).answered)

pub promises : (I : Situation) (h : List Entry) → IsLegal (opening I) h → KeepsPromises I h
promises I h legal = record {
  honest = λ i. known_is_honest (state_at I h i) (state-known (opening I) (take i h) (opening-known I));
  entries = legal-kept (opening I) h legal;
  falls = prefix-falls (opening I) h;
  same = λ i j le within same.
      let n : i + (j - i) ≡ j = omega arith in
      same_state (opening I) h i (j - i) legal (omega arith) (same ∙ ap (λ (k : ℕ). changes (take k h)) (sym n)) ∙ ap (λ (k : ℕ). state (opening I) (take k h)) n;
}

-- ---- longer histories

-- an entry that may come after a legal history makes a legal one
pub legal-append : (S : State) (h : List Entry) (entry : Entry) → IsLegal S h → Stands S h entry → IsLegal S (h ++ entry ∷ [])
legal-append S h entry legal stands i e at =
    let lt : i < length h + 1 = omega (arith, slice_get_within (h ++ entry ∷ []) i e at, length-append h (entry ∷ [])) in
    let cases : (i < length h) ⊎ (i ≡ length h) = grind arith in
    elim cases [
      | inl before ↦
          let here : slice_get h i ≡ Some e = slice_get-get_or h i e before ∙ ap Some (sym (get_or-append h (entry ∷ []) e i before) ∙ get_or_from_slice_get (h ++ entry ∷ []) i e e at) in
          subst (λ (t : List Entry). Stands S t e) (sym (take-append-le i h (entry ∷ []) (omega arith))) (legal i e here)
      | inr last ↦
          let there : slice_get (h ++ entry ∷ []) (length h) ≡ Some e = subst (λ (k : ℕ). slice_get (h ++ entry ∷ []) k ≡ Some e) last at in
          let is : e ≡ entry = sym (get_or_from_slice_get (h ++ entry ∷ []) (length h) e e there) ∙ get_or-append_seam h entry [] e in
          let front : take i (h ++ entry ∷ []) ≡ h = ap (λ (k : ℕ). take k (h ++ entry ∷ [])) last ∙ take-append-le (length h) h (entry ∷ []) (omega arith) ∙ take_all (length h) h (omega arith) in
          subst (λ (t : List Entry). Stands S t e) (sym front) (subst (λ (x : Entry). Stands S h x) (sym is) stands)
    ]

pub legal-nil : (S : State) → IsLegal S []
legal-nil S i entry at = absurd cc

-- ---- what can be asked

fits_step : (I J : Situation) → I.parts ≡ J.parts → (s : Step) → StepFits I s → StepFits J s
fits_step I J same (step.Set leg was new) h = subst (λ (p : Parts). (leg.0 < length p.legs) × IsRowOf (length p.planes) was × IsRowOf (length p.planes) new) same h
fits_step I J same (step.Push plane after) h = subst (λ (p : Parts). (plane.0 < length p.planes) × ForSome after (λ leg. leg.0 < length p.legs)) same h
fits_step I J same (step.Swap first second at) h = subst (λ (p : Parts). (first.0 < length p.planes) × (second.0 < length p.planes) × (at.0 < 52500000)) same h
fits_step I J same (step.Rebook res path to count) h = subst (λ (p : Parts). (res.0 < length p.res) × IsPathIn (length p.legs) path × IsPathIn (length p.legs) to × (1 ≤ count) × (count ≤ 1000)) same h
fits_step I J same step.Tidy h = h
fits_step I J same (step.Refill leg) h = subst (λ (p : Parts). leg.0 < length p.legs) same h

-- neither orders nor progress make a difference to what can be asked
pub askable-parts : (I J : Situation) (e : Event) → I.parts ≡ J.parts → IsAskable I e → IsAskable J e
askable-parts I J (event.Batch B) same asked = subst (λ (p : Parts). IsBatch p B) same asked
askable-parts I J (event.Move m) same asked = record { some = asked.some; most = asked.most; each = All-weaker (StepFits I) (StepFits J) (fits_step I J same) m.steps asked.each }

-- ---- since the last batch

-- one entry more stands before those since the last batch, or there are none where it is a batch
pub since_is : (h : List Entry) (entry : Entry) → since_batch (h ++ entry ∷ []) ≡ cond (not (is_batch entry.event)) (entry ∷ since_batch h) []
since_is h entry =
    ap (take_while (λ (e : Entry). not (is_batch e.event))) (reverse-append h (entry ∷ []))
    ∙ take_while-cons (λ (e : Entry). not (is_batch e.event)) entry (reverse h)

-- ---- runs

-- a history with the entry of one more event, where there is room for it
abbrev pub with_event : State → List Entry → ℕ × Event → List Entry
with_event S h e = cond (has_room (length h) e.1) (h ++ entry_of (state S h) e.0 e.1 ∷ []) h

-- a history and the entries of the events after it are those after the history with the first event
pub run-step : (S : State) (h : List Entry) (e : ℕ × Event) (events : List (ℕ × Event)) → h ++ entries (length h) (state S h) (e ∷ events) ≡ with_event S h e ++ entries (length (with_event S h e)) (state S (with_event S h e)) events
unfolding entries
run-step S h e events =
    elim (cases_Bool (has_room (length h) e.1)) [
      | inl room ↦
          let entry : Entry = entry_of (state S h) e.0 e.1 in
          let len : length (h ++ entry ∷ []) ≡ length h + 1 = length-append h (entry ∷ []) in
          let here : state S (h ++ entry ∷ []) ≡ after (state S h) e.1 = state-append S h (entry ∷ []) in
          rw (room, len, here) (sym (append_assoc h (entry ∷ []) (entries (length h + 1) (after (state S h) e.1) events)))
      | inr full ↦ rw full refl
    ]

-- no events, no entries
pub run-nil : (S : State) (h : List Entry) → h ++ entries (length h) (state S h) [] ≡ h
unfolding entries
run-nil S h = append-nil h

with_event-legal : (S : State) (h : List Entry) (e : ℕ × Event) → IsLegal S h → IsAskable S.inst e.1 → IsLegal S (with_event S h e)
with_event-legal S h e legal asked =
    elim (cases_Bool (has_room (length h) e.1)) [
      | inl room ↦
          let stands : Stands S h (entry_of (state S h) e.0 e.1) = record { room = room; asked = askable-parts S.inst (state S h).inst e.1 (sym (state-parts S h)) asked; answered = refl } in
          rw room (legal-append S h (entry_of (state S h) e.0 e.1) legal stands)
      | inr full ↦ rw full legal
    ]

entries_legal : (S : State) (h : List Entry) (events : List (ℕ × Event)) → IsLegal S h → AllByRecursion (λ asked. IsAskable S.inst asked.1) events → IsLegal S (h ++ entries (length h) (state S h) events)
entries_legal S h [] legal asked = subst (IsLegal S) (sym (run-nil S h)) legal
entries_legal S h (e ∷ events) legal asked =
    subst (IsLegal S) (sym (run-step S h e events)) (entries_legal S (with_event S h e) events (with_event-legal S h e legal asked.0) asked.1)

-- the history of events that can be asked is legal
pub run-legal : (S : State) (events : List (ℕ × Event)) → AreAskable S.inst events → IsLegal S (run S events)
run-legal S events asked = entries_legal S [] events (legal-nil S) (recursion_from_All (λ asked. IsAskable S.inst asked.1) events asked)

-- Which plans histories have.
use Rattle.std.proofs.Common.{◌≡◌, ◌↔◌, ℕ, zero, suc, ◌+◌, ◌<◌, ◌≤◌, ◌⊎◌, inl, inr, Bool, true, false, ◌||◌, ltb, List, [], ◌++◌, length, take, refl, sym, ap, subst, ◌∙◌, arith}
use Rattle.std.specs.Prelude.{None, Some}
use Rattle.std.proofs.lemmas.List.{take_all}
use Rattle.std.proofs.lemmas.List.Elements.{All-weaker}
use Rattle.day_orders.specs.declared.orders.Batch.{Batch}
use Rattle.desk_data.specs.declared.broken.Broken.{Broken}
use Rattle.desk_data.specs.declared.parts.Parts.{Parts}
use Rattle.desk_data.specs.declared.row.Row.{Row}
use Rattle.desk_data.specs.declared.row.Group.{Group}
use Rattle.plan_moves.specs.declared.moves.Move.{Move}
use Rattle.plan_moves.specs.Fits.{Fits}
use Rattle.desk_data.specs.Progress.{with_batch}
use Rattle.desk_data.specs.Begun.{HasRoomBehind, KeepsToLeft}
use Rattle.desk_data.specs.PlanRows.{groups_at, row_at}
use Rattle.desk_data.specs.Situation.{Situation, due, fixed, frozen_at, leg_at, legs_of, now_of, plane_at, reservations_of}
use Rattle.desk_data.specs.Valid.{IsBatch, IsValid, IsPlanFor}
use Rattle.desk_data.proofs.BatchLaws.{with_batch-valid, with_batch-plan}
use Rattle.desk_data.proofs.ScheduleLemmas.{plan_for_schedule}
use Rattle.desk_rules.specs.Words.{EachCarried, IsFeasible, IsLeast}
use Rattle.desk_rules.proofs.LeastLaws.{feasible-holds, feasible-from, least-holds}
use Rattle.desk_model.specs.declared.answer.Answer.{Answer}
use Rattle.desk_model.specs.declared.answer.Answer.TheVariants.{Taken, Accepted, Breaks, Dearer, NoPlan, Full}
use Rattle.desk_model.specs.declared.answer.Event.{Event}
use Rattle.desk_model.specs.declared.answer.Event.TheVariants as event
use Rattle.desk_model.specs.declared.answer.Entry.{Entry}
use Rattle.desk_model.specs.Fallback.{rows_of}
use Rattle.desk_model.specs.States.{State, opening, fallback_on, answer, answered_state, after}
use Rattle.desk_model.specs.Histories.{state, IsAskable, IsLegal, TellsNoMoment, moment_behind, orders_of}
use Rattle.desk_model.specs.Promises.{state_at}
use Rattle.desk_model.specs.Batches.{HasPlanRows}
use Rattle.desk_model.proofs.MoveLaws.{after_move-valid}
use Rattle.desk_model.proofs.FallbackLaws.{fallback-valid}
use Rattle.desk_model.proofs.StateLaws.{after-batch-inst, after-batch-plan, opening-known, opening-inst, opening-plan}
use Rattle.desk_model.proofs.BatchLaws.{least-from}
use Rattle.desk_model.proofs.HistoryLaws.{state-known, state-parts, state-orders, state-now, state-progress, frozen-along, state-next, entry_at, askable-parts}

-- ---- a plan, exactly where the rows are feasible

pub planned : (I : Situation) (h : List Entry) → (state (opening I) h).broken ≡ None ↔ IsFeasible (state (opening I) h).inst (state (opening I) h).plan
planned I h =
    let given = state-known (opening I) h (opening-known I) in
    ((λ none. feasible-holds _ _ (sym given ∙ none)), (λ feasible. given ∙ feasible-from _ _ feasible))

pub unplanned : (I : Situation) (h : List Entry) (item : Broken) → (state (opening I) h).broken ≡ Some item ↔ IsLeast (state (opening I) h).inst (state (opening I) h).plan item
unplanned I h item =
    let given = state-known (opening I) h (opening-known I) in
    ((λ some. least-holds _ _ item (sym given ∙ some)), (λ first. given ∙ least-from _ _ item first))

-- ---- the instance of a state

-- its rows are those of the day at the opening, its orders have those of the batches after them, and it has gone on to the latest of their moments
pub rows_of_state : (I : Situation) (h : List Entry) → (state (opening I) h).inst.parts ≡ I.parts
rows_of_state I h = state-parts (opening I) h ∙ ap (λ (J : Situation). J.parts) (opening-inst I)

pub orders_of_state : (I : Situation) (h : List Entry) → (state (opening I) h).inst.orders ≡ I.orders ++ orders_of h
orders_of_state I h = state-orders (opening I) h ∙ ap (λ (J : Situation). J.orders ++ orders_of h) (opening-inst I)

pub now_of_state : (I : Situation) (h : List Entry) → now_of (state (opening I) h).inst ≡ moment_behind (now_of I) h
now_of_state I h = state-now (opening I) h ∙ ap (λ (J : Situation). moment_behind (now_of J) h) (opening-inst I)

pub progress_of_state : (I : Situation) (h : List Entry) → TellsNoMoment h → (state (opening I) h).inst.progress ≡ I.progress
progress_of_state I h none = state-progress (opening I) h none ∙ ap (λ (J : Situation). J.progress) (opening-inst I)

-- ---- what has left

pub frozen_stays : (I : Situation) (h : List Entry) (i j x : ℕ) (row : Row) → x < legs_of I → i ≤ j → frozen_at (state_at I h i).inst x ≡ Some row → frozen_at (state_at I h j).inst x ≡ Some row
frozen_stays I h i j x row within le is =
    frozen-along (opening I) h i j x row (subst (λ (J : Situation). x < legs_of J) (sym (opening-inst I)) within) le is

third_true : (a b : Bool) → (a || b || true) ≡ true
third_true true b = refl
third_true false true = refl
third_true false false = refl

-- a frozen leg is due the row with which it is frozen
due_frozen : (I : Situation) (x : ℕ) (row : Row) → frozen_at I x ≡ Some row → due I x ≡ Some row
unfolding due fixed
due_frozen I x row is = rw (is, third_true (plane_at I (leg_at I x).plane.0).surface (ltb (leg_at I x).sched.0 I.parts.from.0)) refl

pub frozen_flies : (I : Situation) (h : List Entry) (x : ℕ) (row : Row) → x < legs_of I → (state (opening I) h).broken ≡ None → frozen_at (state (opening I) h).inst x ≡ Some row → row_at (state (opening I) h).plan x ≡ row
frozen_flies I h x row within none is =
    let J = (state (opening I) h).inst in
    let feasible = (planned I h).0 none in
    feasible.c1 x (subst (λ (p : Parts). x < length p.legs) (sym (rows_of_state I h)) within) row (due_frozen J x row is)

pub carried_as_flown : (I : Situation) (h : List Entry) (r : ℕ) → r < reservations_of I → (state (opening I) h).broken ≡ None → EachCarried (state (opening I) h).plan r (HasRoomBehind (state (opening I) h).inst r (groups_at (state (opening I) h).plan r))
carried_as_flown I h r within none =
    let S = state (opening I) h in
    let groups = groups_at S.plan r in
    let keeps = ((planned I h).0 none).c15 r (subst (λ (p : Parts). r < length p.res) (sym (rows_of_state I h)) within) in
    All-weaker (λ (group : Group). (group.path ≡ [] → ⊥) → KeepsToLeft S.inst r groups group.path) (λ (group : Group). (group.path ≡ [] → ⊥) → HasRoomBehind S.inst r groups group.path)
    (λ group kept some. (kept some).room) groups keeps

pub askable_along : (I : Situation) (h : List Entry) (e : Event) → IsAskable (state (opening I) h).inst e ↔ IsAskable I e
askable_along I h e =
    let same = rows_of_state I h in
    (askable-parts (state (opening I) h).inst I e same, askable-parts I (state (opening I) h).inst e (sym same))

-- ---- plans for instances

published_plan : (S : State) (m : Move) (a : Answer) → Fits S.inst m → HasPlanRows S → HasPlanRows (answered_state S m a)
published_plan S m (Accepted given) fits h = record { inst = h.inst; plan = after_move-valid S.inst S.plan m h.inst fits h.plan }
published_plan S m (Taken which given) fits h = h
published_plan S m (Breaks item) fits h = h
published_plan S m (Dearer now would) fits h = h
published_plan S m (NoPlan item) fits h = h
published_plan S m (Full entries) fits h = h

moved_plan : (S : State) (m : Move) → Fits S.inst m → HasPlanRows S → HasPlanRows (after S (event.Move m))
unfolding after
moved_plan S m fits h = published_plan S m (answer S (event.Move m)) fits h

plan_fallen : (S : State) (B : Batch) → IsValid (with_batch S.inst S.plan B) → IsPlanFor (with_batch S.inst S.plan B) S.plan → IsPlanFor (with_batch S.inst S.plan B) (rows_of (fallback_on S B))
unfolding fallback_on
plan_fallen S B valid plan = fallback-valid (with_batch S.inst S.plan B) S.plan valid plan

taken_plan : (S : State) (B : Batch) → IsBatch S.inst.parts B → HasPlanRows S → HasPlanRows (after S (event.Batch B))
taken_plan S B batch h =
    let valid = with_batch-valid S.inst S.plan B h.inst h.plan batch in
    record {
      inst = subst IsValid (sym (after-batch-inst S B)) valid;
      plan = rw (after-batch-inst S B, after-batch-plan S B) (plan_fallen S B valid (with_batch-plan S.inst S.plan S.plan B h.plan));
    }

after_plan : (S : State) (e : Event) → IsAskable S.inst e → HasPlanRows S → HasPlanRows (after S e)
after_plan S (event.Batch B) asked h = taken_plan S B asked h
after_plan S (event.Move m) asked h = moved_plan S m asked h

opening_plan : (I : Situation) → IsValid I → HasPlanRows (opening I)
opening_plan I valid = record {
  inst = subst IsValid (sym (opening-inst I)) valid;
  plan = rw (opening-inst I, opening-plan I) (plan_for_schedule I valid);
}

plans_along : (S : State) (h : List Entry) (i : ℕ) → IsLegal S h → HasPlanRows S → HasPlanRows (state S (take i h))
plans_along S h zero legal first = first
plans_along S h (suc i) legal first =
    let rest = plans_along S h i legal first in
    let cases : (i < length h) ⊎ (length h ≤ i) = grind arith in
    elim cases [
      | inl within ↦
          let at = entry_at h i within in
          let next : HasPlanRows (state S (take (i + 1) h)) = subst HasPlanRows (sym (state-next S h i at.0 at.1)) (after_plan (state S (take i h)) at.0.event (legal i at.0 at.1).asked rest) in
          subst (λ (j : ℕ). HasPlanRows (state S (take j h))) (let e : i + 1 ≡ suc i = omega arith in e) next
      | inr past ↦
          let here : take (suc i) h ≡ take i h = take_all (suc i) h (omega (arith, past)) ∙ sym (take_all i h past) in
          subst (λ (t : List Entry). HasPlanRows (state S t)) (sym here) rest
    ]

pub plans_of_history : (I : Situation) (h : List Entry) → IsValid I → IsLegal (opening I) h → (i : ℕ) → HasPlanRows (state_at I h i)
plans_of_history I h valid legal i = plans_along (opening I) h i legal (opening_plan I valid)

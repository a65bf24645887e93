-- What answers say of states.
use Rattle.std.proofs.Common.{◌≡◌, ℕ, ◌<◌, ◌≤◌, Bool, true, false, cond, leb, refl, sym, ap, ◌∙◌, arith}
use Rattle.std.specs.Prelude.{None, Some, Option, is_none}
use Rattle.std.proofs.lemmas.Bool.{leb-false, leb-true, lt-leb, true≢false}
use Rattle.desk_units.specs.declared.money.Grains.{Grains}
use Rattle.desk_units.specs.declared.numbers.Minute.{Minute}
use Rattle.day_orders.specs.declared.orders.Batch.{Batch}
use Rattle.desk_data.specs.declared.broken.Broken.{Broken}
use Rattle.desk_data.specs.declared.row.Row.{Row}
use Rattle.plan_moves.specs.declared.moves.Move.{Move}
use Rattle.desk_data.specs.Progress.{moment_or_now, with_batch}
use Rattle.desk_data.specs.Situation.{Situation, frozen_at, legs_of, now_of, schedule}
use Rattle.desk_data.proofs.BatchLaws.{with_batch-parts}
use Rattle.desk_data.proofs.LeavingLaws.{freezes_rows}
use Rattle.desk_data.specs.PlanRows.{PlanRows}
use Rattle.desk_rules.specs.Least.{least}
use Rattle.desk_rules.specs.Cost.{cost, grains}
use Rattle.desk_model.specs.declared.answer.Answer.{Answer}
use Rattle.desk_model.specs.declared.answer.Answer.TheVariants.{Taken, Accepted, Breaks, Dearer, NoPlan, Full}
use Rattle.desk_model.specs.declared.answer.Event.{Event}
use Rattle.desk_model.specs.declared.answer.Event.TheVariants as event
use Rattle.desk_model.specs.declared.fallbacks.Which.{Which}
use Rattle.desk_model.specs.declared.fallbacks.Which.TheVariants.{Keep, Shift}
use Rattle.desk_model.specs.declared.fallbacks.Fallback.{Fallback}
use Rattle.desk_model.specs.declared.fallbacks.Fallback.TheVariants as fallen
use Rattle.desk_model.specs.Fallback.{fallback, shifted, grounded, chosen_or, last_choice, rows_of}
use Rattle.desk_model.specs.Steps.{after_move}
use Rattle.desk_model.specs.States.{State, opening, fallback_on, batch_answer, fallen_state, verdict, move_answer, answer, answered_state, after}
use Rattle.desk_model.specs.Histories.{is_batch, is_accepted, is_change, moment_after, has_no_moment}
use Rattle.desk_model.specs.Promises.{cost_of}

-- why a move was accepted
pub record Cause (S : State) (m : Move) (given : Grains) : Type 0 where
  pub had_plan : S.broken ≡ None
  pub feasible : least S.inst (after_move S.inst S.plan m) ≡ None
  pub cheaper : cost S.inst (after_move S.inst S.plan m) < cost_of S
  pub stored : given ≡ grains (cost S.inst (after_move S.inst S.plan m))

judged_accepted : (b : Option Broken) (now would : ℕ) (given : Grains) (dear : Bool) → leb now would ≡ dear → verdict b now would ≡ Accepted given → (b ≡ None) × (would < now) × (given ≡ grains would)
judged_accepted (Some item) now would given dear test h = absurd cc
judged_accepted None now would given true test h =
    let now_is : cond true (Dearer (grains now) (grains would)) (Accepted (grains would)) ≡ Accepted given = rw test at h in
    absurd cc
judged_accepted None now would given false test h =
    let now_is : cond false (Dearer (grains now) (grains would)) (Accepted (grains would)) ≡ Accepted given = rw test at h in
    (refl, leb-false now would test, cc)

proposed_accepted : (S : State) (m : Move) (b : Option Broken) (given : Grains) → S.broken ≡ b → move_answer S m b ≡ Accepted given → Cause S m given
proposed_accepted S m (Some item) given here h = absurd cc
proposed_accepted S m None given here h =
    let moved_plan = after_move S.inst S.plan m in
    let facts = judged_accepted (least S.inst moved_plan) (cost S.inst S.plan) (cost S.inst moved_plan) given (leb (cost S.inst S.plan) (cost S.inst moved_plan)) refl h in
    record { had_plan = here; feasible = facts.0; cheaper = facts.1; stored = facts.2 }

pub accepted-cause : (S : State) (m : Move) (given : Grains) → answer S (event.Move m) ≡ Accepted given → Cause S m given
unfolding answer
accepted-cause S m given h = proposed_accepted S m S.broken given refl h

-- where there is a plan, and the moved one is feasible and cheaper, the move is accepted
pub accepted-from : (S : State) (m : Move) → S.broken ≡ None → least S.inst (after_move S.inst S.plan m) ≡ None → cost S.inst (after_move S.inst S.plan m) < cost_of S → answer S (event.Move m) ≡ Accepted (grains (cost S.inst (after_move S.inst S.plan m)))
unfolding answer
accepted-from S m had feasible cheaper =
    let dear : leb (cost S.inst S.plan) (cost S.inst (after_move S.inst S.plan m)) ≡ false = lt-leb _ _ cheaper in
    rw (had, feasible, dear) refl

-- ---- batches

-- a batch is answered Taken or NoPlan
batch_accepted : (J : Situation) (F : Fallback) (given : Grains) → batch_answer J F ≡ Accepted given → ⊥
batch_accepted J (fallen.Chosen which Q) given h = absurd cc
batch_accepted J (fallen.NoPlan item Q) given h = absurd cc

pub batch-not-accepted : (S : State) (B : Batch) (given : Grains) → answer S (event.Batch B) ≡ Accepted given → ⊥
unfolding answer
batch-not-accepted S B given h = batch_accepted (with_batch S.inst S.plan B) (fallback_on S B) given h

batch_priced : (J : Situation) (F : Fallback) (which : Which) (given : Grains) → batch_answer J F ≡ Taken which given → given ≡ grains (cost_of (fallen_state J F))
batch_priced J (fallen.Chosen w Q) which given h = cc
batch_priced J (fallen.NoPlan item Q) which given h = absurd cc

-- the cost that is reported of a batch is that of the rows after it
pub batch-priced : (S : State) (B : Batch) (which : Which) (given : Grains) → answer S (event.Batch B) ≡ Taken which given → given ≡ grains (cost_of (after S (event.Batch B)))
unfolding answer after
batch-priced S B which given h = batch_priced (with_batch S.inst S.plan B) (fallback_on S B) which given h

batch_published : (J : Situation) (F : Fallback) (which : Which) (given : Grains) → batch_answer J F ≡ Taken which given → (fallen_state J F).broken ≡ None
batch_published J (fallen.Chosen w Q) which given h = refl
batch_published J (fallen.NoPlan item Q) which given h = absurd cc

-- and they are published
pub batch-published : (S : State) (B : Batch) (which : Which) (given : Grains) → answer S (event.Batch B) ≡ Taken which given → (after S (event.Batch B)).broken ≡ None
unfolding answer after
batch-published S B which given h = batch_published (with_batch S.inst S.plan B) (fallback_on S B) which given h

batch_unplanned : (J : Situation) (F : Fallback) (item : Broken) → batch_answer J F ≡ NoPlan item → (fallen_state J F).broken ≡ Some item
batch_unplanned J (fallen.Chosen which Q) item h = absurd cc
batch_unplanned J (fallen.NoPlan other Q) item h = let same : other ≡ item = cc in ap Some same

-- the item that is reported of a batch is that of the state after it
pub batch-unplanned : (S : State) (B : Batch) (item : Broken) → answer S (event.Batch B) ≡ NoPlan item → (after S (event.Batch B)).broken ≡ Some item
unfolding answer after
batch-unplanned S B item h = batch_unplanned (with_batch S.inst S.plan B) (fallback_on S B) item h

-- ---- proposals that are refused

judged_unplanned : (b : Option Broken) (now would : ℕ) (dear : Bool) (item : Broken) → leb now would ≡ dear → verdict b now would ≡ NoPlan item → ⊥
judged_unplanned (Some other) now would dear item test h = absurd cc
judged_unplanned None now would true item test h =
    let now_is : cond true (Dearer (grains now) (grains would)) (Accepted (grains would)) ≡ NoPlan item = rw test at h in
    absurd cc
judged_unplanned None now would false item test h =
    let now_is : cond false (Dearer (grains now) (grains would)) (Accepted (grains would)) ≡ NoPlan item = rw test at h in
    absurd cc

proposed_unplanned : (S : State) (m : Move) (b : Option Broken) (item : Broken) → move_answer S m b ≡ NoPlan item → b ≡ Some item
proposed_unplanned S m (Some other) item h = let same : other ≡ item = cc in ap Some same
proposed_unplanned S m None item h =
    let moved_plan = after_move S.inst S.plan m in
    absurd (judged_unplanned (least S.inst moved_plan) (cost S.inst S.plan) (cost S.inst moved_plan) (leb (cost S.inst S.plan) (cost S.inst moved_plan)) item refl h)

-- a proposal is answered that there is no plan where there is none
pub move-unplanned : (S : State) (m : Move) (item : Broken) → answer S (event.Move m) ≡ NoPlan item → S.broken ≡ Some item
unfolding answer
move-unplanned S m item h = proposed_unplanned S m S.broken item h

judged_broken : (b : Option Broken) (now would : ℕ) (dear : Bool) (item : Broken) → leb now would ≡ dear → verdict b now would ≡ Breaks item → b ≡ Some item
judged_broken (Some other) now would dear item test h = let same : other ≡ item = cc in ap Some same
judged_broken None now would true item test h =
    let now_is : cond true (Dearer (grains now) (grains would)) (Accepted (grains would)) ≡ Breaks item = rw test at h in
    absurd cc
judged_broken None now would false item test h =
    let now_is : cond false (Dearer (grains now) (grains would)) (Accepted (grains would)) ≡ Breaks item = rw test at h in
    absurd cc

proposed_broken : (S : State) (m : Move) (b : Option Broken) (item : Broken) → move_answer S m b ≡ Breaks item → (b ≡ None) × (least S.inst (after_move S.inst S.plan m) ≡ Some item)
proposed_broken S m (Some other) item h = absurd cc
proposed_broken S m None item h =
    let moved_plan = after_move S.inst S.plan m in
    (refl, judged_broken (least S.inst moved_plan) (cost S.inst S.plan) (cost S.inst moved_plan) (leb (cost S.inst S.plan) (cost S.inst moved_plan)) item refl h)

-- a proposal is answered with an item where there is a plan, and the moved plan breaks it first
pub move-broken : (S : State) (m : Move) (item : Broken) → answer S (event.Move m) ≡ Breaks item → (S.broken ≡ None) × (least S.inst (after_move S.inst S.plan m) ≡ Some item)
unfolding answer
move-broken S m item h = proposed_broken S m S.broken item h

-- why a move was refused as dearer
pub record Refusal (S : State) (m : Move) (now would : Grains) : Type 0 where
  pub had_plan : S.broken ≡ None
  pub feasible : least S.inst (after_move S.inst S.plan m) ≡ None
  pub dearer : cost_of S ≤ cost S.inst (after_move S.inst S.plan m)
  pub now_costs : now ≡ grains (cost_of S)
  pub would_cost : would ≡ grains (cost S.inst (after_move S.inst S.plan m))

judged_dearer : (b : Option Broken) (now would : ℕ) (dear : Bool) (first second : Grains) → leb now would ≡ dear → verdict b now would ≡ Dearer first second → (b ≡ None) × (now ≤ would) × (first ≡ grains now) × (second ≡ grains would)
judged_dearer (Some item) now would dear first second test h = absurd cc
judged_dearer None now would true first second test h =
    let now_is : cond true (Dearer (grains now) (grains would)) (Accepted (grains would)) ≡ Dearer first second = rw test at h in
    (refl, leb-true now would test, cc, cc)
judged_dearer None now would false first second test h =
    let now_is : cond false (Dearer (grains now) (grains would)) (Accepted (grains would)) ≡ Dearer first second = rw test at h in
    absurd cc

proposed_dearer : (S : State) (m : Move) (b : Option Broken) (now would : Grains) → S.broken ≡ b → move_answer S m b ≡ Dearer now would → Refusal S m now would
proposed_dearer S m (Some item) now would here h = absurd cc
proposed_dearer S m None now would here h =
    let moved_plan = after_move S.inst S.plan m in
    let facts = judged_dearer (least S.inst moved_plan) (cost S.inst S.plan) (cost S.inst moved_plan) (leb (cost S.inst S.plan) (cost S.inst moved_plan)) now would refl h in
    record { had_plan = here; feasible = facts.0; dearer = facts.1; now_costs = facts.2; would_cost = facts.3 }

pub dearer-cause : (S : State) (m : Move) (now would : Grains) → answer S (event.Move m) ≡ Dearer now would → Refusal S m now would
unfolding answer
dearer-cause S m now would h = proposed_dearer S m S.broken now would refl h

verdict_taken : (b : Option Broken) (now would : ℕ) (dear : Bool) (which : Which) (given : Grains) → leb now would ≡ dear → verdict b now would ≡ Taken which given → ⊥
verdict_taken (Some item) now would dear which given test h = absurd cc
verdict_taken None now would true which given test h =
    let now_is : cond true (Dearer (grains now) (grains would)) (Accepted (grains would)) ≡ Taken which given = rw test at h in
    absurd cc
verdict_taken None now would false which given test h =
    let now_is : cond false (Dearer (grains now) (grains would)) (Accepted (grains would)) ≡ Taken which given = rw test at h in
    absurd cc

proposed_taken : (S : State) (m : Move) (b : Option Broken) (which : Which) (given : Grains) → move_answer S m b ≡ Taken which given → ⊥
proposed_taken S m (Some item) which given h = absurd cc
proposed_taken S m None which given h =
    let moved_plan = after_move S.inst S.plan m in
    verdict_taken (least S.inst moved_plan) (cost S.inst S.plan) (cost S.inst moved_plan) (leb (cost S.inst S.plan) (cost S.inst moved_plan)) which given refl h

-- no proposal is answered Taken
pub move-not-taken : (S : State) (m : Move) (which : Which) (given : Grains) → answer S (event.Move m) ≡ Taken which given → ⊥
unfolding answer
move-not-taken S m which given h = proposed_taken S m S.broken which given h

fallen_inst : (J : Situation) (F : Fallback) → (fallen_state J F).inst ≡ J
fallen_inst J (fallen.Chosen which Q) = refl
fallen_inst J (fallen.NoPlan item Q) = refl

-- the day of a batch is the one with it
pub after-batch-inst : (S : State) (B : Batch) → (after S (event.Batch B)).inst ≡ with_batch S.inst S.plan B
unfolding after
after-batch-inst S B = fallen_inst (with_batch S.inst S.plan B) (fallback_on S B)

fallen_plan : (J : Situation) (F : Fallback) → (fallen_state J F).plan ≡ rows_of F
fallen_plan J (fallen.Chosen which Q) = refl
fallen_plan J (fallen.NoPlan item Q) = refl

-- the rows are those that the desk falls back on
pub after-batch-plan : (S : State) (B : Batch) → (after S (event.Batch B)).plan ≡ rows_of (fallback_on S B)
unfolding after
after-batch-plan S B = fallen_plan (with_batch S.inst S.plan B) (fallback_on S B)

-- ---- the state after an answer

-- the item of a state is the first that its rows break
abbrev pub KnowsBroken : State → Type 0
KnowsBroken S = S.broken ≡ least S.inst S.plan

published-known : (S : State) (m : Move) (a : Answer) → answer S (event.Move m) ≡ a → KnowsBroken S → KnowsBroken (answered_state S m a)
published-known S m (Accepted given) e h = sym (accepted-cause S m given e).feasible
published-known S m (Taken which given) e h = h
published-known S m (Breaks item) e h = h
published-known S m (Dearer now would) e h = h
published-known S m (NoPlan item) e h = h
published-known S m (Full entries) e h = h

choice_known : (J : Situation) (P Q G : PlanRows) (a b c : Option Broken) → least J P ≡ a → least J Q ≡ b → least J G ≡ c → KnowsBroken (fallen_state J (chosen_or Keep P a (chosen_or Shift Q b (last_choice G c))))
choice_known J P Q G None b c p s g = sym p
choice_known J P Q G (Some i) None c p s g = sym s
choice_known J P Q G (Some i) (Some j) None p s g = sym g
choice_known J P Q G (Some i) (Some j) (Some k) p s g = sym g

fallen_known : (J : Situation) (P : PlanRows) → KnowsBroken (fallen_state J (fallback J P))
unfolding fallback
fallen_known J P = choice_known J P (shifted J P) (grounded J P) (least J P) (least J (shifted J P)) (least J (grounded J P)) refl refl refl

pub after-known : (S : State) (e : Event) → KnowsBroken S → KnowsBroken (after S e)
unfolding after fallback_on
after-known S (event.Batch B) h = fallen_known (with_batch S.inst S.plan B) S.plan
after-known S (event.Move m) h = published-known S m (answer S (event.Move m)) refl h

pub opening-known : (I : Situation) → KnowsBroken (opening I)
unfolding opening
opening-known I = refl

published-inst : (S : State) (m : Move) (a : Answer) → (answered_state S m a).inst ≡ S.inst
published-inst S m (Accepted given) = refl
published-inst S m (Taken which given) = refl
published-inst S m (Breaks item) = refl
published-inst S m (Dearer now would) = refl
published-inst S m (NoPlan item) = refl
published-inst S m (Full entries) = refl

-- a proposal leaves the instance
pub after-move-inst : (S : State) (m : Move) → (after S (event.Move m)).inst ≡ S.inst
unfolding after
after-move-inst S m = published-inst S m (answer S (event.Move m))

-- every event leaves the joined rows
pub after-parts : (S : State) (e : Event) → (after S e).inst.parts ≡ S.inst.parts
after-parts S (event.Batch B) = ap (λ (J : Situation). J.parts) (after-batch-inst S B) ∙ with_batch-parts S.inst S.plan B
after-parts S (event.Move m) = ap (λ (J : Situation). J.parts) (after-move-inst S m)

-- a batch takes the day on to its moment
pub after-now : (S : State) (e : Event) → now_of (after S e).inst ≡ moment_after (now_of S.inst) e
after-now S (event.Batch B) = ap now_of (after-batch-inst S B) ∙ (freezes_rows S.inst S.plan B).goes_on
after-now S (event.Move m) = ap now_of (after-move-inst S m)

told_none : (now : ℕ) (at : Option Minute) → is_none at ≡ true → moment_or_now now at ≡ now
told_none now None none = refl
told_none now (Some at) none = absurd (true≢false (sym none))

-- and where it tells none nothing leaves
pub after-progress : (S : State) (e : Event) → has_no_moment e ≡ true → (after S e).inst.progress ≡ S.inst.progress
after-progress S (event.Batch B) none = ap (λ (J : Situation). J.progress) (after-batch-inst S B) ∙ (freezes_rows S.inst S.plan B).waits (told_none (now_of S.inst) B.at none)
after-progress S (event.Move m) none = ap (λ (J : Situation). J.progress) (after-move-inst S m)

-- what is frozen stays so
pub after-frozen : (S : State) (e : Event) (x : ℕ) (row : Row) → x < legs_of S.inst → frozen_at S.inst x ≡ Some row → frozen_at (after S e).inst x ≡ Some row
after-frozen S (event.Batch B) x row within is = ap (λ (J : Situation). frozen_at J x) (after-batch-inst S B) ∙ (freezes_rows S.inst S.plan B).stays x row within is
after-frozen S (event.Move m) x row within is = ap (λ (J : Situation). frozen_at J x) (after-move-inst S m) ∙ is

pub opening-inst : (I : Situation) → (opening I).inst ≡ I
unfolding opening
opening-inst I = refl

pub opening-plan : (I : Situation) → (opening I).plan ≡ schedule I
unfolding opening
opening-plan I = refl

published-unchanged : (S : State) (m : Move) (a : Answer) → is_accepted a ≡ false → answered_state S m a ≡ S
published-unchanged S m (Accepted given) h = absurd (true≢false h)
published-unchanged S m (Taken which given) h = refl
published-unchanged S m (Breaks item) h = refl
published-unchanged S m (Dearer now would) h = refl
published-unchanged S m (NoPlan item) h = refl
published-unchanged S m (Full entries) h = refl

-- an answer that is no change leaves the state
pub after-unchanged : (S : State) (e : Event) → is_change e (answer S e) ≡ false → after S e ≡ S
unfolding after
after-unchanged S (event.Batch B) h = absurd (true≢false h)
after-unchanged S (event.Move m) h = published-unchanged S m (answer S (event.Move m)) h

-- an accepted move is published
pub after-accepted : (S : State) (m : Move) (given : Grains) → answer S (event.Move m) ≡ Accepted given → after S (event.Move m) ≡ record { inst = S.inst; plan = after_move S.inst S.plan m; broken = None }
unfolding after
after-accepted S m given h = ap (answered_state S m) h

accepted_is : (a : Answer) → is_accepted a ≡ true → (given : Grains) × (a ≡ Accepted given)
accepted_is (Accepted given) h = (given, refl)
accepted_is (Taken which given) h = absurd (true≢false (sym h))
accepted_is (Breaks item) h = absurd (true≢false (sym h))
accepted_is (Dearer now would) h = absurd (true≢false (sym h))
accepted_is (NoPlan item) h = absurd (true≢false (sym h))
accepted_is (Full entries) h = absurd (true≢false (sym h))

-- an answer that accepts names a cost
pub accepted-known : (a : Answer) → is_accepted a ≡ true → (given : Grains) × (a ≡ Accepted given)
accepted-known = accepted_is

falls_by : (S : State) (m : Move) (a : Answer) → answer S (event.Move m) ≡ a → cost_of (answered_state S m a) ≤ cost_of S
falls_by S m (Accepted given) e = let cause = accepted-cause S m given e in omega (arith, cause.cheaper)
falls_by S m (Taken which given) e = omega arith
falls_by S m (Breaks item) e = omega arith
falls_by S m (Dearer now would) e = omega arith
falls_by S m (NoPlan item) e = omega arith
falls_by S m (Full entries) e = omega arith

-- no proposal makes the rows dearer
pub after-falls : (S : State) (e : Event) → is_batch e ≡ false → cost_of (after S e) ≤ cost_of S
unfolding after
after-falls S (event.Batch B) other = absurd (true≢false other)
after-falls S (event.Move m) other = falls_by S m (answer S (event.Move m)) refl

-- What holds of every legal history from the opening of an instance.
use Rattle.std.specs.Prelude.{◌≡◌, ◌↔◌, ℕ, ◌+◌, ◌<◌, ◌≤◌, Some, None, false, List, length, take, slice_get, true}
use Rattle.desk_units.specs.declared.money.Grains.{Grains}
use Rattle.desk_data.specs.declared.broken.Broken.{Broken}
use Rattle.plan_moves.specs.declared.moves.Move.{Move}
use Rattle.day_orders.specs.declared.orders.Batch.{Batch}
use Rattle.desk_data.specs.Progress.{with_batch}
use Rattle.desk_data.specs.Situation.{Situation}
use Rattle.desk_rules.specs.Cost.{cost, grains}
use Rattle.desk_rules.specs.Words.{IsFeasible, IsLeast}
use Rattle.desk_model.specs.declared.answer.Answer.{Answer}
use Rattle.desk_model.specs.declared.answer.Answer.TheVariants.{Taken, Accepted, Breaks, Dearer, NoPlan}
use Rattle.desk_model.specs.declared.fallbacks.Which.{Which}
use Rattle.desk_model.specs.Fallback.{grounded, rows_of, rows_named}
use Rattle.desk_model.specs.declared.answer.Event.TheVariants as event
use Rattle.desk_model.specs.declared.answer.Entry.{Entry}
use Rattle.desk_model.specs.Steps.{after_move}
use Rattle.desk_model.specs.States.{State, opening, fallback_on}
use Rattle.desk_model.specs.Batches.{AnswersBatch}
use Rattle.desk_model.specs.Histories.{state, changes, is_batch, is_accepted, is_change}

-- the state after the first i entries
abbrev pub state_at : Situation → List Entry → ℕ → State
state_at I h i = state (opening I) (take i h)

-- what the rows of a state cost
abbrev pub cost_of : State → ℕ
cost_of S = cost S.inst S.plan

-- a published plan meets all rules; where there is no plan, the item reported is the first that the rows break
pub record IsHonest (S : State) : Type 0 where
  pub published : S.broken ≡ None → IsFeasible S.inst S.plan
  pub unpublished : (item : Broken) → S.broken ≡ Some item → IsLeast S.inst S.plan item

-- the move makes of the state's plan one that meets all rules and costs less
pub record Improves (S : State) (m : Move) : Type 0 where
  pub feasible : IsFeasible S.inst (after_move S.inst S.plan m)
  pub cheaper : cost S.inst (after_move S.inst S.plan m) < cost_of S

-- a batch and the answer to it, between the state before it and the state after it: the rows that have left before its moment are frozen, and its orders are taken after the others. The answer names the first of the three that is feasible, made of the rows as they stood, on the day as it is then, or it is the first item that the rows of Ground break. The rows are those that the desk falls back on: those that the name stands for, or where no name is given those of Ground
pub record IsTakenIn (before : State) (B : Batch) (given : Answer) (after : State) : Type 0 where
  pub orders : after.inst ≡ with_batch before.inst before.plan B
  pub answered : AnswersBatch after.inst before.plan given
  pub rows : after.plan ≡ rows_of (fallback_on before B)
  pub named : (which : Which) (price : Grains) → given ≡ Taken which price → after.plan ≡ rows_named after.inst before.plan which
  pub left : (item : Broken) → given ≡ NoPlan item → after.plan ≡ grounded after.inst before.plan

-- there was no plan to move, and nothing changes: the item reported is the one that was reported before
pub record HadNoPlan (before : State) (item : Broken) (after : State) : Type 0 where
  pub had : before.broken ≡ Some item
  pub stays : after ≡ before

-- there was a plan to move, and the item reported is the first that the moved plan breaks
pub record BreaksFirst (before : State) (m : Move) (item : Broken) : Type 0 where
  pub had : before.broken ≡ None
  pub least : IsLeast before.inst (after_move before.inst before.plan m) item

-- there was a plan to move, and the moved plan is feasible and no cheaper. The costs reported are that of the rows and that of the moved plan
pub record IsDearer (before : State) (m : Move) (now would : Grains) : Type 0 where
  pub had : before.broken ≡ None
  pub feasible : IsFeasible before.inst (after_move before.inst before.plan m)
  pub no_cheaper : cost_of before ≤ cost before.inst (after_move before.inst before.plan m)
  pub now_costs : now ≡ grains (cost_of before)
  pub would_cost : would ≡ grains (cost before.inst (after_move before.inst before.plan m))

-- entry i of the history, between the state before it and the state after it
pub record IsKept (before : State) (entry : Entry) (after : State) : Type 0 where
  pub taken : (B : Batch) → entry.event ≡ event.Batch B → IsTakenIn before B entry.answer after
  -- the cost that is reported of a batch is the cost of the rows after it, under the new orders, and they are published
  pub priced : (which : Which) (price : Grains) → entry.answer ≡ Taken which price → (price ≡ grains (cost_of after)) × (after.broken ≡ None)
  -- where the answer is that there is no plan, there is none after the event, and the item reported is the one that the rows break
  pub unplanned : (item : Broken) → entry.answer ≡ NoPlan item → after.broken ≡ Some item
  -- a proposal is answered so where there was none before it
  pub unmoved : (m : Move) (item : Broken) → entry.event ≡ event.Move m → entry.answer ≡ NoPlan item → HadNoPlan before item after
  -- what is reported of a proposal that is refused
  pub breaking : (m : Move) (item : Broken) → entry.event ≡ event.Move m → entry.answer ≡ Breaks item → BreaksFirst before m item
  pub dearer : (m : Move) (now would : Grains) → entry.event ≡ event.Move m → entry.answer ≡ Dearer now would → IsDearer before m now would
  -- a proposal to a published plan is accepted exactly where the moved plan is feasible and cheaper
  pub accepted : (m : Move) → entry.event ≡ event.Move m → before.broken ≡ None → is_accepted entry.answer ≡ true ↔ Improves before m
  -- the cost that is reported of an accepted proposal is the cost of the rows after it, and less than before
  pub stored : (price : Grains) → entry.answer ≡ Accepted price → (price ≡ grains (cost_of after)) × (cost_of after < cost_of before)
  -- an accepted proposal publishes the moved plan
  pub moved_to : (m : Move) → entry.event ≡ event.Move m → is_accepted entry.answer ≡ true → (after.inst ≡ before.inst) × (after.plan ≡ after_move before.inst before.plan m) × (after.broken ≡ None)
  -- every other answer leaves the state
  pub refused : is_change entry.event entry.answer ≡ false → after ≡ before

-- none of the entries from place i up to but not including place j is a batch
abbrev pub AreProposals : List Entry → ℕ → ℕ → Type 0
AreProposals h i j = (k : ℕ) (entry : Entry) → i ≤ k → k < j → slice_get h k ≡ Some entry → is_batch entry.event ≡ false

-- what holds of a history from the opening of an instance
pub record KeepsPromises (I : Situation) (h : List Entry) : Type 0 where
  pub honest : (i : ℕ) → IsHonest (state_at I h i)
  pub entries : (i : ℕ) (entry : Entry) → slice_get h i ≡ Some entry → IsKept (state_at I h i) entry (state_at I h (i + 1))
  -- between two batches costs only fall
  pub falls : (i j : ℕ) → i ≤ j → AreProposals h i j → cost_of (state_at I h j) ≤ cost_of (state_at I h i)
  -- equally many changes make the same state
  pub same : (i j : ℕ) → i ≤ j → j ≤ length h → changes (take i h) ≡ changes (take j h) → state_at I h i ≡ state_at I h j

-- The state of the desk, and what it answers to an event.
use Rattle.std.specs.Prelude.{ℕ, nat_le, if◌then◌else◌, Option, Some, None}
use Rattle.day_orders.specs.declared.orders.Batch.{Batch}
use Rattle.desk_data.specs.declared.broken.Broken.{Broken}
use Rattle.plan_moves.specs.declared.moves.Move.{Move}
use Rattle.desk_data.specs.Progress.{with_batch}
use Rattle.desk_data.specs.Situation.{Situation, schedule}
use Rattle.desk_data.specs.PlanRows.{PlanRows}
use Rattle.desk_rules.specs.Least.{least}
use Rattle.desk_rules.specs.Cost.{cost, grains}
use Rattle.desk_model.specs.declared.answer.Answer.{Answer}
use Rattle.desk_model.specs.declared.answer.Answer.TheVariants.{Taken, Accepted, Breaks, Dearer, NoPlan}
use Rattle.desk_model.specs.declared.answer.Event.{Event}
use Rattle.desk_model.specs.declared.answer.Event.TheVariants as event
use Rattle.desk_model.specs.declared.fallbacks.Fallback.{Fallback}
use Rattle.desk_model.specs.declared.fallbacks.Fallback.TheVariants as fallen
use Rattle.desk_model.specs.Fallback.{fallback}
use Rattle.desk_model.specs.Steps.{after_move}

-- the instance as disrupted, the rows, and the item that they break: there is a plan where they break none
pub record State : Type 0 where
  pub inst : Situation
  pub plan : PlanRows
  pub broken : Option Broken

-- before anything has happened the plan is the schedule
unfoldable pub opening : Situation → State
opening I = record { inst = I; plan = schedule I; broken = least I (schedule I) }

-- ---- batches

-- what the desk falls back on when the batch is taken: it is made of the rows as they stand, under the orders that there are then, once those that have left are frozen
unfoldable pub fallback_on : State → Batch → Fallback
fallback_on S B = fallback (with_batch S.inst S.plan B) S.plan

-- the answer to a batch: the name of the plan that is chosen, and its cost on the day with the batch; or where there is no plan the item
abbrev pub batch_answer : Situation → Fallback → Answer
batch_answer J (fallen.Chosen which Q) = Taken which (grains (cost J Q))
batch_answer J (fallen.NoPlan item Q) = NoPlan item

-- the state after a batch: the day with it, and the rows that were chosen or are left
abbrev pub fallen_state : Situation → Fallback → State
fallen_state J (fallen.Chosen which Q) = record { inst = J; plan = Q; broken = None }
fallen_state J (fallen.NoPlan item Q) = record { inst = J; plan = Q; broken = Some item }

-- ---- proposals

-- the answer to a proposal at a plan: what the moved plan breaks, else whether it is cheaper
abbrev pub verdict : Option Broken → ℕ → ℕ → Answer
verdict (Some item) now would = Breaks item
verdict None now would = if nat_le now would then Dearer (grains now) (grains would) else Accepted (grains would)

-- there is nothing to move where there is no plan
abbrev pub move_answer : State → Move → Option Broken → Answer
move_answer S m (Some item) = NoPlan item
move_answer S m None =
    let moved_plan = after_move S.inst S.plan m in
    verdict (least S.inst moved_plan) (cost S.inst S.plan) (cost S.inst moved_plan)

unfoldable pub answer : State → Event → Answer
answer S (event.Batch B) = batch_answer (with_batch S.inst S.plan B) (fallback_on S B)
answer S (event.Move m) = move_answer S m S.broken

-- an accepted move is published, and every other answer leaves the state
abbrev pub answered_state : State → Move → Answer → State
answered_state S m (Accepted cost) = record { inst = S.inst; plan = after_move S.inst S.plan m; broken = None }
answered_state S m other = S

unfoldable pub after : State → Event → State
after S (event.Batch B) = fallen_state (with_batch S.inst S.plan B) (fallback_on S B)
after S (event.Move m) = answered_state S m (answer S (event.Move m))

-- Descending from a plan: as long as a move near it makes it feasible and cheaper, the first such move is proposed.
use Rattle.std.specs.Prelude.{◌≡◌, ℕ, zero, suc, Bool, true, false, not, ◌&&◌, ◌||◌, nat_lt, nat_le, if◌then◌else◌, Option, Some, None, is_none, List, [], ◌∷◌, ◌++◌, length, find, filter}
use Rattle.plan_moves.specs.declared.moves.Move.{Move}
use Rattle.day_orders.specs.declared.orders.Batch.{Batch}
use Rattle.desk_data.specs.Situation.{Situation}
use Rattle.desk_data.specs.PlanRows.{PlanRows}
use Rattle.desk_rules.specs.Least.{least}
use Rattle.desk_rules.specs.Cost.{cost}
use Rattle.desk_model.specs.declared.answer.Event.TheVariants as event
use Rattle.desk_model.specs.declared.answer.Entry.{Entry}
use Rattle.desk_model.specs.Steps.{after_move}
use Rattle.desk_model.specs.States.{State}
use Rattle.desk_model.specs.Histories.{state, proposal_limit, accepted_since_batch, entry_of}
use Rattle.desk_data.specs.declared.broken.Broken.{Broken}
use Rattle.near_moves.specs.declared.ended.SearchEnd.{SearchEnd}
use Rattle.near_moves.specs.declared.ended.SearchEnd.TheVariants.{Budget, Quiet}
use Rattle.near_moves.specs.Near.{near, shard}

-- whether the moved plan breaks no rule and costs less
unfoldable pub is_better : Situation → PlanRows → Move → Bool
is_better I P m = is_none (least I (after_move I P m)) && nat_lt (cost I (after_move I P m)) (cost I P)

-- the moves near a plan that are better, in their order, and the first of them in a shard
abbrev pub better : Situation → PlanRows → List Move
better I P = filter (is_better I P) (near I P)

abbrev pub first_better : Situation → PlanRows → ℕ → ℕ → Option Move
first_better I P s n = find (is_better I P) (shard I P s n)

-- there is a plan, and no move near it is better: a local optimum
pub record IsQuiet (S : State) : Type 0 where
  pub planned : S.broken ≡ None
  pub none : better S.inst S.plan ≡ []

-- no proposal more is made after a history in which so many were accepted since the last batch, or whose journal takes no more
unfoldable pub is_spent : ℕ → List Entry → Bool
is_spent most h = nat_le most (accepted_since_batch h) || nat_le proposal_limit (length h)

-- why no move more is proposed, where there is a plan: the history is spent, or no move near the plan is better
abbrev pub end_by : Option Broken → Bool → Option SearchEnd
end_by None true = Some Budget
end_by None false = Some Quiet
end_by (Some item) spent = None

-- what is proposed after a history: the first better move near the plan, where there is a plan and the history is not spent
unfoldable pub next_proposal : ℕ → State → List Entry → Option Move
next_proposal most S h =
    let T = state S h in
    if is_none T.broken && not (is_spent most h) then find (is_better T.inst T.plan) (near T.inst T.plan) else None

-- the history with the entry of a proposal of caller 0, where there is one
abbrev pub with_proposal : State → List Entry → Option Move → List Entry
with_proposal S h None = h
with_proposal S h (Some m) = h ++ entry_of (state S h) 0 (event.Move m) ∷ []

-- a history after up to n proposals
unfoldable pub descent_of : ℕ → ℕ → State → List Entry → List Entry
descent_of zero most S h = h
descent_of (suc n) most S h = descent_of n most S (with_proposal S h (next_proposal most S h))

-- as often as there is something to propose: each proposal is accepted, so a history is spent once there were so many as may be accepted
abbrev pub descent : ℕ → State → List Entry → List Entry
descent most S h = descent_of most most S h

-- after a history the batches are taken in their order, each from caller 0 and followed by a descent
unfoldable pub recovery_after : ℕ → State → List Entry → List Batch → List Entry
recovery_after most S h [] = h
recovery_after most S h (B ∷ batches) = recovery_after most S (descent most S (h ++ entry_of (state S h) 0 (event.Batch B) ∷ [])) batches

abbrev pub recovery : ℕ → State → List Batch → List Entry
recovery most S batches = recovery_after most S [] batches

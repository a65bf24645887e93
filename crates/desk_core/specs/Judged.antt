-- What judging a move finds out.
use Rattle.std.specs.Prelude.{◌≡◌, ℕ, false, Option, Some, None}
use Rattle.desk_units.specs.declared.money.Grains.{Grains}
use Rattle.plan_moves.specs.declared.moves.Move.{Move}
use Rattle.desk_rules.specs.Least.{least}
use Rattle.desk_rules.specs.Cost.{grains}
use Rattle.desk_model.specs.declared.answer.Answer.{Answer}
use Rattle.desk_model.specs.declared.answer.Answer.TheVariants.{Accepted}
use Rattle.desk_model.specs.declared.answer.Event.TheVariants as event
use Rattle.desk_model.specs.Steps.{after_move}
use Rattle.desk_model.specs.States.{State, answer}
use Rattle.desk_model.specs.Histories.{is_accepted}
use Rattle.desk_eval.specs.Evaluated.{Evaluated}
use Rattle.desk_eval.specs.Back.{WayBack, back_to}
use Rattle.desk_core.specs.declared.judged.Judged.{Judged}
use Rattle.desk_core.specs.declared.judged.Judged.TheVariants.{Moved, Refused}

-- the state whose plan stands in an evaluator: what it breaks is what the plan breaks first
abbrev pub state_in : Evaluated → State
state_in E = record { inst = E.inst; plan = E.rows; broken = least E.inst E.rows }

-- whether a verdict refuses: where it does, this is the answer; else the move is accepted at this cost
abbrev pub IsVerdict : Answer → ℕ → Option Answer → Type 0
IsVerdict verdict would (Some given) = (verdict ≡ given) × (is_accepted given ≡ false)
IsVerdict verdict would None = verdict ≡ Accepted (grains would)

-- the move is accepted at this cost; the moved plan stands in the evaluator, and is taken back by this
pub record IsMoved (before : Evaluated) (m : Move) (now : Evaluated) (undo : WayBack) (cost : Grains) : Type 0 where
  pub answered : answer (state_in before) (event.Move m) ≡ Accepted cost
  pub inst : now.inst ≡ before.inst
  pub rows : now.rows ≡ after_move before.inst before.rows m
  pub back : back_to undo.depth now ≡ before

-- the move is refused with this answer, and the evaluator is as before
pub record IsRefused (before : Evaluated) (m : Move) (now : Evaluated) (given : Answer) : Type 0 where
  pub answered : answer (state_in before) (event.Move m) ≡ given
  pub refused : is_accepted given ≡ false
  pub same : now ≡ before

-- what becomes of a move, between the evaluator before it and the one after it
abbrev pub IsJudged : Evaluated → Move → Evaluated → Judged → Type 0
IsJudged before m now (Moved undo cost) = IsMoved before m now undo cost
IsJudged before m now (Refused given) = IsRefused before m now given

-- What a step of a descent proposes, and the book after it.
use Rattle.std.specs.Prelude.{◌≡◌, ℕ, Option}
use Rattle.std.specs.Option.{ForSome}
use Rattle.plan_moves.specs.declared.moves.Move.{Move}
use Rattle.plan_moves.specs.Fits.{Fits}
use Rattle.desk_data.specs.Situation.{Situation}
use Rattle.desk_data.specs.PlanRows.{PlanRows}
use Rattle.desk_model.specs.States.{opening}
use Rattle.desk_core.specs.Recorded.{Recorded}
use Rattle.near_moves.specs.Descent.{first_better, next_proposal, with_proposal}

-- what is found at a plan is the first better move of all moves near it, or that there is none; and it fits
pub record IsFirstBetter (I : Situation) (P : PlanRows) (found : Option Move) : Type 0 where
  pub first : found ≡ first_better I P 0 1
  pub fits : ForSome found (Fits I)

-- what is proposed to a book next, and the book after it
abbrev pub next_of : ℕ → Recorded → Option Move
next_of most B = next_proposal most (opening B.opening) B.journal

abbrev pub stepped : ℕ → Recorded → Recorded
stepped most B = record B { journal = with_proposal (opening B.opening) B.journal (next_of most B) }

-- How a descent of a book ends.
use Rattle.std.specs.Prelude.{◌≡◌, ℕ, Option, List}
use Rattle.desk_model.specs.declared.answer.Entry.{Entry}
use Rattle.desk_model.specs.States.{State, opening}
use Rattle.desk_core.specs.Recorded.{Recorded}
use Rattle.near_moves.specs.declared.ended.SearchEnd.{SearchEnd}
use Rattle.near_moves.specs.Descent.{end_by, is_spent, descent_of, descent}

-- why it ended, by the state and the history after it
unfoldable pub ending : ℕ → State → List Entry → Option SearchEnd
ending most S h = end_by S.broken (is_spent most h)

-- a book after a descent, and after its first n steps
abbrev pub after_descent : ℕ → Recorded → Recorded
after_descent most B = record B { journal = descent most (opening B.opening) B.journal }

abbrev pub after_steps : ℕ → ℕ → Recorded → Recorded
after_steps n most B = record B { journal = descent_of n most (opening B.opening) B.journal }

-- a book now is the one after some first steps of a descent
pub record IsUnderWay (most : ℕ) (before now : Recorded) : Type 0 where
  pub steps : ℕ
  pub reached : now ≡ after_steps steps most before

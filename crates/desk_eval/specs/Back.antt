-- Where an evaluator goes back to, and how far steps take it.
use Rattle.std.specs.Prelude.{◌≡◌, ℕ, ◌+◌, ◌≤◌, nat_lt, if◌then◌else◌, List, [], ◌∷◌, length}
use Rattle.desk_data.specs.Situation.{Situation}
use Rattle.desk_data.specs.PlanRows.{PlanRows}
use Rattle.desk_eval.specs.Evaluated.{Evaluated}

-- plan P and a past, the last plan first: while the past has more than d plans, its first one takes the place of P
abbrev pub back_from : ℕ → Situation → PlanRows → List PlanRows → Evaluated
back_from d I P [] = record { inst = I; rows = P; past = [] }
back_from d I P (before ∷ past) =
    if nat_lt d (length (before ∷ past)) then back_from d I before past else record { inst = I; rows = P; past = before ∷ past }

-- the evaluator as it was when its past had d changes; where it has no more than d, as it is. What it breaks and what it costs are functions of its rows, and so they are as they were too
unfoldable pub back_to : ℕ → Evaluated → Evaluated
back_to d E = back_from d E.inst E.rows E.past

-- what takes a move back: how many changes the past had before it
pub record WayBack : Type 0 where
  pub depth : ℕ

-- evaluator F stands at most n changes after evaluator E, and goes back to it
pub record IsAfter (n : ℕ) (E F : Evaluated) : Type 0 where
  pub inst : F.inst ≡ E.inst
  pub deep : length E.past ≤ length F.past
  pub few : length F.past ≤ length E.past + n
  pub back : back_to (length E.past) F ≡ E

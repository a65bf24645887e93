-- What a move costs more by its rows, and what those pay whom it touches.
--
-- P is the plan before the move, and Q the plan that its first steps make, which has other rows and the same groups.
use Rattle.std.specs.Prelude.{ℕ, Bool, true, false, List, [], ◌∷◌}
use Rattle.desk_data.specs.Situation.{Situation}
use Rattle.desk_data.specs.PlanRows.{PlanRows}
use Rattle.plan_moves.specs.declared.moves.Step.{Step}
use Rattle.plan_moves.specs.declared.moves.Step.TheVariants.{Set, Push, Swap, Rebook, Tidy, Refill}
use Rattle.board_kit.specs.Users.{uses, is_booked_on}
use Rattle.near_untouched.specs.Alone.{cost_of_some}

-- what the passengers of those reservations pay that have somebody on leg x, and of those that are booked on it
abbrev pub paid_on : Situation → PlanRows → ℕ → ℕ
paid_on I P x = cost_of_some I P (uses P x)

abbrev pub paid_booked : Situation → PlanRows → ℕ → ℕ
paid_booked I P x = cost_of_some I P (is_booked_on I x)

-- whether a step is a Tidy or a Refill
abbrev pub tidies : Step → Bool
tidies (Set leg was new) = false
tidies (Push plane after) = false
tidies (Swap first second at) = false
tidies (Rebook res path to count) = false
tidies Tidy = true
tidies (Refill leg) = true

-- the legs that some steps refill
abbrev pub refilled : List Step → List ℕ
refilled [] = []
refilled (Set leg was new ∷ steps) = refilled steps
refilled (Push plane after ∷ steps) = refilled steps
refilled (Swap first second at ∷ steps) = refilled steps
refilled (Rebook res path to count ∷ steps) = refilled steps
refilled (Tidy ∷ steps) = refilled steps
refilled (Refill leg ∷ steps) = leg.0 ∷ refilled steps

-- whether a step is no Rebook, which names a path
abbrev pub names_no_path : Step → Bool
names_no_path (Set leg was new) = true
names_no_path (Push plane after) = true
names_no_path (Swap first second at) = true
names_no_path (Rebook res path to count) = false
names_no_path Tidy = true
names_no_path (Refill leg) = true

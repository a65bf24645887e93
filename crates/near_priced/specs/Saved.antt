-- What those save at most by a move who are on a leg that gets another row.
--
-- P is the plan before the move, and S the plan that its first steps make, which has other rows and the same groups. Then a Tidy is taken, and
-- after it Refills alone.
use Rattle.std.specs.Prelude.{ℕ, ◌+◌, ◌-◌, min, Bool, true, false, if◌then◌else◌, List, [], ◌∷◌, sum_by}
use Rattle.std.specs.List.{list_all}
use Rattle.desk_data.specs.declared.row.Group.{Group}
use Rattle.desk_data.specs.Situation.{Situation, reservations_of}
use Rattle.desk_data.specs.PlanRows.{PlanRows, groups_at}
use Rattle.plan_moves.specs.declared.moves.Step.{Step}
use Rattle.plan_moves.specs.declared.moves.Step.TheVariants.{Set, Push, Swap, Rebook, Tidy, Refill}
use Rattle.desk_rules.specs.Numbers.{numbers}
use Rattle.desk_rules.specs.Cost.{arrives, legal_uncarried}
use Rattle.plan_checks.specs.Amounts.{cancellation_uncarried, group_cost, reservation_cost}
use Rattle.board_kit.specs.Users.{uses}

-- what so many passengers of reservation r cost who are not carried
abbrev pub uncarried_cost : Situation → ℕ → ℕ → ℕ
uncarried_cost I r count = cancellation_uncarried I r count + legal_uncarried I r count

-- what a group of reservation r costs at least once a Tidy is taken in plan S: where its path arrives it stays on it or is no longer carried, and else it is not carried
unfoldable pub least_of : Situation → PlanRows → ℕ → Group → ℕ
least_of I S r group =
    if arrives S group.path then min (group_cost I S r group) (uncarried_cost I r group.count)
    else uncarried_cost I r group.count

-- what all groups of reservation r cost at least then
unfoldable pub least_after : Situation → PlanRows → ℕ → ℕ
least_after I S r = sum_by (least_of I S r) (groups_at S r)

-- so much reservation r saves at most
abbrev pub saved_by : Situation → PlanRows → PlanRows → ℕ → ℕ
saved_by I P S r = reservation_cost I P r - least_after I S r

-- and so much those together that have somebody on leg x in plan P
abbrev pub saved_on : Situation → PlanRows → PlanRows → ℕ → ℕ
saved_on I P S x = sum_by (λ r. if uses P x r then saved_by I P S r else 0) (numbers (reservations_of I))

-- whether a step is a Refill
abbrev pub refills_leg : Step → Bool
refills_leg (Set leg was new) = false
refills_leg (Push plane after) = false
refills_leg (Swap first second at) = false
refills_leg (Rebook res path to count) = false
refills_leg Tidy = false
refills_leg (Refill leg) = true

-- whether some steps are Sets, Pushes and Swaps, then one Tidy, and Refills after it
abbrev pub tidies_once : List Step → Bool
tidies_once [] = false
tidies_once (Set leg was new ∷ steps) = tidies_once steps
tidies_once (Push plane after ∷ steps) = tidies_once steps
tidies_once (Swap first second at ∷ steps) = tidies_once steps
tidies_once (Rebook res path to count ∷ steps) = false
tidies_once (Tidy ∷ steps) = list_all refills_leg steps
tidies_once (Refill leg ∷ steps) = false

-- the same of those that are left, once the Tidy was taken or before
abbrev pub goes_on : Bool → List Step → Bool
goes_on true steps = list_all refills_leg steps
goes_on false steps = tidies_once steps

-- What other groups of a reservation change of what a plan costs.
use Rattle.std.proofs.Common.{◌≡◌, ℕ, ◌+◌, ◌<◌, List, [], ◌∷◌, length, refl, arith}
use Rattle.std.specs.Prelude.{sum_by}
use Rattle.std.proofs.lemmas.List.Sums.{sum_by-cons}
use Rattle.desk_data.specs.declared.row.Group.{Group}
use Rattle.desk_data.specs.Situation.{Situation, reservations_of}
use Rattle.desk_data.specs.PlanRows.{PlanRows, groups_at, with_groups}
use Rattle.desk_rules.specs.Numbers.{numbers}
use Rattle.desk_rules.specs.Passengers.{all_flown, minutes_late}
use Rattle.desk_rules.specs.Cost.{operating_cost, position_cost, missing_aircraft, delay, cancellation, legal, delay_cost, cancellation_cost, downgrade_cost, legal_cost, cost}
use Rattle.step_laws.proofs.SumLaws.{sum_same}
use Rattle.step_laws.proofs.RowLaws.{sum_of_groups}
use Rattle.plan_checks.specs.Amounts.{group_cost, reservation_cost}
use Rattle.plan_checks.proofs.GroupLaws.{reservations_are}
use Rattle.plan_checks.specs.Flown.{flown_cost}

-- the whole is what legs and passengers cost, and the positions
pub cost_is : (I : Situation) (P : PlanRows) → cost I P ≡ flown_cost I P + position_cost I P
unfolding cost delay_cost cancellation_cost downgrade_cost legal_cost
cost_is I P = omega (arith, reservations_are I P (reservations_of I))

-- what a group costs hangs on the rows alone
group_stays : (I : Situation) (P : PlanRows) (r s : ℕ) (groups : List Group) (group : Group) → group_cost I (with_groups P r groups) s group ≡ group_cost I P s group
unfolding group_cost delay cancellation legal all_flown minutes_late
group_stays I P r s groups group = refl

same_sum : (I : Situation) (P : PlanRows) (r s : ℕ) (groups list : List Group) → sum_by (group_cost I (with_groups P r groups) s) list ≡ sum_by (group_cost I P s) list
same_sum I P r s groups [] = refl
same_sum I P r s groups (group ∷ list) =
    omega (arith, sum_by-cons (group_cost I (with_groups P r groups) s) group list, sum_by-cons (group_cost I P s) group list, group_stays I P r s groups group, same_sum I P r s groups list)

flights_stay : (I : Situation) (P : PlanRows) (r : ℕ) (groups : List Group) → operating_cost I (with_groups P r groups) ≡ operating_cost I P
unfolding operating_cost
flights_stay I P r groups = refl

pub positions_stay : (I : Situation) (P : PlanRows) (r : ℕ) (groups : List Group) → position_cost I (with_groups P r groups) ≡ position_cost I P
unfolding position_cost missing_aircraft
positions_stay I P r groups = refl

passengers_change : (I : Situation) (P : PlanRows) (r : ℕ) (groups : List Group) → r < reservations_of I → r < length P.groups → sum_by (reservation_cost I (with_groups P r groups)) (numbers (reservations_of I)) + sum_by (group_cost I P r) (groups_at P r) ≡ sum_by (reservation_cost I P) (numbers (reservations_of I)) + sum_by (group_cost I P r) groups
unfolding reservation_cost
passengers_change I P r groups lt within =
    let Q = with_groups P r groups in
    omega (
      arith,
      sum_same (λ s. sum_by (group_cost I Q s) (groups_at Q s)) (λ s. sum_by (group_cost I P s) (groups_at Q s)) (reservations_of I) (λ s lt_s. same_sum I P r s groups (groups_at Q s)),
      sum_of_groups (λ s list. sum_by (group_cost I P s) list) P (reservations_of I) r groups lt within,
    )

-- changing the groups of a reservation changes only its terms of the sum
pub groups_balance : (I : Situation) (P : PlanRows) (r : ℕ) (groups : List Group) → r < reservations_of I → r < length P.groups → cost I (with_groups P r groups) + sum_by (group_cost I P r) (groups_at P r) ≡ cost I P + sum_by (group_cost I P r) groups
groups_balance I P r groups lt within =
    omega (arith, cost_is I P, cost_is I (with_groups P r groups), flights_stay I P r groups, positions_stay I P r groups, passengers_change I P r groups lt within)

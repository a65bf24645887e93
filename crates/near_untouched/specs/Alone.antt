-- Reservations that a move leaves alone.
--
-- P is the plan before the move, and Q the plan that its first steps make, which has other rows and the same groups.
use Rattle.std.specs.Prelude.{◌≡◌, ℕ, Bool, true, false, not, if◌then◌else◌, List, All, sum_by}
use Rattle.std.specs.List.{list_all}
use Rattle.desk_units.specs.declared.numbers.Leg.{Leg}
use Rattle.desk_units.specs.declared.numbers.Cabin.{Cabin}
use Rattle.desk_data.specs.Booked.{booked_path}
use Rattle.desk_data.specs.Situation.{Situation, reservations_of}
use Rattle.desk_data.specs.PlanRows.{PlanRows, row_at, groups_at}
use Rattle.desk_rules.specs.Numbers.{numbers}
use Rattle.desk_model.specs.Refill.{has_leg}
use Rattle.plan_moves.specs.declared.moves.Step.{Step}
use Rattle.plan_moves.specs.declared.moves.Step.TheVariants.{Set, Push, Swap, Rebook, Tidy, Refill}
use Rattle.plan_checks.specs.Amounts.{reservation_cost}

-- whether a step leaves reservation r alone, where its paths meet the rules: a Tidy, and a Refill of a leg on which it is not booked
abbrev pub leaves_alone : Situation → ℕ → Step → Bool
leaves_alone I r (Set leg was new) = false
leaves_alone I r (Push plane after) = false
leaves_alone I r (Swap first second at) = false
leaves_alone I r (Rebook res path to count) = false
leaves_alone I r Tidy = true
leaves_alone I r (Refill leg) = not (has_leg leg.0 (booked_path I r))

-- each leg of a path has the same row in both plans
abbrev pub KeepsRows : PlanRows → PlanRows → List (Leg × Cabin) → Type 0
KeepsRows P Q path = All (λ pair. row_at P pair.0.0 ≡ row_at Q pair.0.0) path

-- a move leaves reservation r alone: its first steps leave the legs of its paths their rows, and the others leave it alone
pub record IsLeftAlone (I : Situation) (P Q : PlanRows) (others : List Step) (r : ℕ) : Type 0 where
  pub paths : All (λ group. KeepsRows P Q group.path) (groups_at P r)
  pub steps : list_all (leaves_alone I r) others ≡ true

-- what the passengers of those reservations cost that pass a test
abbrev pub cost_of_some : Situation → PlanRows → (ℕ → Bool) → ℕ
cost_of_some I P some = sum_by (λ r. if some r then reservation_cost I P r else 0) (numbers (reservations_of I))

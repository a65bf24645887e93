-- The steps of a move of legs: first those that change rows, of some legs and aircraft alone, and then those of passengers.
use Rattle.std.specs.Prelude.{◌≡◌, ℕ, Bool, true, false, ◌&&◌, ◌||◌, not, ◌==◌, List, ◌++◌}
use Rattle.std.specs.List.{list_all}
use Rattle.desk_data.specs.Situation.{Situation}
use Rattle.desk_data.specs.PlanRows.{PlanRows, row_at}
use Rattle.plan_moves.specs.declared.moves.Move.{Move}
use Rattle.plan_moves.specs.declared.moves.Step.{Step}
use Rattle.plan_moves.specs.declared.moves.Step.TheVariants.{Set, Push, Swap, Rebook, Tidy, Refill}
use Rattle.desk_rules.specs.Passengers.{is_flown}
use Rattle.near_moves.specs.MoveParts.{flier}
use Rattle.near_moves.specs.Units.{MoveUnit, retimed, swapped, dropped, restored, handed, rebooked}
use Rattle.near_moves.specs.LegMoves.{brings_back}
use Rattle.near_moves.specs.Same.{is_of}

-- whether a step changes rows of some legs of some aircraft alone: it sets one of the legs to a row that one of the aircraft flies, or cancels it; it pushes one of the aircraft, or swaps two of them
abbrev pub is_among : (ℕ → Bool) → (ℕ → Bool) → Step → Bool
is_among planes legs (Set leg was new) = legs leg.0 && (is_of planes new || not (is_flown new))
is_among planes legs (Push plane after) = planes plane.0
is_among planes legs (Swap first second at) = planes first.0 && planes second.0
is_among planes legs (Rebook res path to count) = false
is_among planes legs Tidy = false
is_among planes legs (Refill leg) = false

-- whether a step is a Tidy, or a Refill of one of some legs
abbrev pub is_tidying : (ℕ → Bool) → Step → Bool
is_tidying refilled (Set leg was new) = false
is_tidying refilled (Push plane after) = false
is_tidying refilled (Swap first second at) = false
is_tidying refilled (Rebook res path to count) = false
is_tidying refilled Tidy = true
is_tidying refilled (Refill leg) = refilled leg.0

-- a move begins with steps that change rows of some legs of some aircraft alone, and all others are a Tidy or a Refill of some legs
pub record IsSplit (planes legs refilled : ℕ → Bool) (m : Move) : Type 0 where
  pub first : List Step
  pub others : List Step
  pub steps : m.steps ≡ first ++ others
  pub among : list_all (is_among planes legs) first ≡ true
  pub tidying : list_all (is_tidying refilled) others ≡ true

-- ---- what a unit of legs is made of

-- the aircraft whose legs it moves
abbrev pub unit_planes : PlanRows → MoveUnit → ℕ → Bool
unit_planes P (retimed x) p = p == flier (row_at P x)
unit_planes P (swapped first second) p = (p == first) || (p == second)
unit_planes P (dropped x) p = p == flier (row_at P x)
unit_planes P (restored x plane) p = p == plane
unit_planes P (handed x k q) p = (p == flier (row_at P x)) || (p == q)
unit_planes P (rebooked r path) p = false

-- the cancelled legs that it may fly again
abbrev pub unit_restores : Situation → PlanRows → MoveUnit → ℕ → Bool
unit_restores I P (retimed x) y = false
unit_restores I P (swapped first second) y = false
unit_restores I P (dropped x) y = false
unit_restores I P (restored x plane) y = (y == x) || brings_back I P x y
unit_restores I P (handed x k q) y = false
unit_restores I P (rebooked r path) y = false

-- its legs: those that its aircraft fly, and those that it may fly again
abbrev pub unit_legs : Situation → PlanRows → MoveUnit → ℕ → Bool
unit_legs I P u y = is_of (unit_planes P u) (row_at P y) || unit_restores I P u y

-- the legs that it may refill
abbrev pub unit_refills : Situation → PlanRows → MoveUnit → ℕ → Bool
unit_refills I P (retimed x) y = y == x
unit_refills I P (swapped first second) y = false
unit_refills I P (dropped x) y = false
unit_refills I P (restored x plane) y = (y == x) || brings_back I P x y
unit_refills I P (handed x k q) y = false
unit_refills I P (rebooked r path) y = false

-- the leg with which it begins is flown, where it is one that is
abbrev pub BeginsFlown : PlanRows → MoveUnit → Type 0
BeginsFlown P (retimed x) = is_flown (row_at P x) ≡ true
BeginsFlown P (swapped first second) = Unit {0}
BeginsFlown P (dropped x) = is_flown (row_at P x) ≡ true
BeginsFlown P (restored x plane) = Unit {0}
BeginsFlown P (handed x k q) = is_flown (row_at P x) ≡ true
BeginsFlown P (rebooked r path) = ⊥

-- Units as code has them, and what is chosen for each move of a unit.
use Rattle.std.specs.Prelude.{◌≡◌, ℕ, ◌<◌, ◌+◌, Bool, true, ◌&&◌, nat_le, List, Option, Some, None}
use Rattle.desk_units.specs.declared.numbers.Leg.{Leg}
use Rattle.desk_units.specs.declared.numbers.Plane.{Plane}
use Rattle.desk_data.specs.Situation.{Situation, legs_of, planes_of, leg_at}
use Rattle.desk_data.specs.declared.row.Row.{Row}
use Rattle.desk_data.specs.declared.row.Row.TheVariants.{Cancelled}
use Rattle.desk_data.specs.PlanRows.{PlanRows, row_at}
use Rattle.plan_moves.specs.declared.moves.Step.{Step}
use Rattle.plan_moves.specs.declared.moves.Step.TheVariants.{Set}
use Rattle.desk_rules.specs.Rotations.{dep}
use Rattle.desk_rules.specs.Passengers.{is_flown}
use Rattle.near_moves.specs.MoveParts.{leg, minute, flown_row}
use Rattle.near_moves.specs.Units.{MoveUnit, retimed, swapped, dropped, restored, handed}
use Rattle.near_moves.specs.LegMoves.{retiming, exchange, dropping, restoring_alone, restoring_both, handing}
use Rattle.near_legs.specs.declared.unit.LegUnit.{LegUnit}
use Rattle.near_legs.specs.declared.unit.LegUnit.TheVariants as units
use Rattle.near_legs.specs.declared.choice.Choice.{Choice}
use Rattle.near_legs.specs.declared.choice.Choice.TheVariants.{Depart, Exchange, Drop, Alone, Both, Hand}

-- the unit
abbrev pub unit_of : LegUnit → MoveUnit
unit_of (units.Retimed leg) = retimed leg.0
unit_of (units.Swapped first second) = swapped first.0 second.0
unit_of (units.Dropped leg) = dropped leg.0
unit_of (units.Restored leg plane) = restored leg.0 plane.0
unit_of (units.Handed leg count plane) = handed leg.0 count plane.0

-- leg x is one of the day's, and is flown
pub record IsFlownLeg (I : Situation) (P : PlanRows) (x : ℕ) : Type 0 where
  pub within : x < legs_of I
  pub flown : is_flown (row_at P x) ≡ true

-- the numbers of a unit are in range, and its legs are flown
abbrev pub IsLegUnit : Situation → PlanRows → LegUnit → Type 0
IsLegUnit I P (units.Retimed leg) = IsFlownLeg I P leg.0
IsLegUnit I P (units.Swapped first second) = (first.0 < planes_of I) × (second.0 < planes_of I)
IsLegUnit I P (units.Dropped leg) = IsFlownLeg I P leg.0
IsLegUnit I P (units.Restored leg plane) = (leg.0 < legs_of I) × (plane.0 < planes_of I)
IsLegUnit I P (units.Handed leg count plane) = IsFlownLeg I P leg.0 × (plane.0 < planes_of I)

-- the steps of what is chosen
abbrev pub steps_of : Situation → PlanRows → Choice → List Step
steps_of I P (Depart leg at) = retiming P leg.0 at.0
steps_of I P (Exchange first second at) = exchange first.0 second.0 at.0
steps_of I P (Drop leg count) = dropping I P leg.0 count
steps_of I P (Alone leg plane) = restoring_alone I leg.0 plane.0
steps_of I P (Both leg plane back) = restoring_both I leg.0 plane.0 back.0
steps_of I P (Hand leg count plane) = handing I P leg.0 count plane.0

-- its numbers are in range, and its legs are flown
abbrev pub IsChoice : Situation → PlanRows → Choice → Type 0
IsChoice I P (Depart leg at) = IsFlownLeg I P leg.0
IsChoice I P (Exchange first second at) = Unit {0}
IsChoice I P (Drop leg count) = IsFlownLeg I P leg.0
IsChoice I P (Alone leg plane) = (leg.0 < legs_of I)
IsChoice I P (Both leg plane back) = (leg.0 < legs_of I) × (back.0 < legs_of I) × (plane.0 < planes_of I)
IsChoice I P (Hand leg count plane) = IsFlownLeg I P leg.0

-- the row of a leg of a run: cancelled, or flown by another aircraft at its time
abbrev pub new_row : PlanRows → Option Plane → ℕ → Row
new_row P None y = Cancelled
new_row P (Some plane) y = flown_row plane.0 (dep P y)

abbrev pub run_step : PlanRows → Option Plane → ℕ → Step
run_step P to y = Set (leg y) (row_at P y) (new_row P to y)

-- whether leg y, which leads back from where leg x arrives, does so in time
abbrev pub is_back_in_time : Situation → ℕ → ℕ → Bool
is_back_in_time I x y =
    let there = leg_at I x in
    let back = leg_at I y in
    nat_le (there.sched.0 + there.block) back.sched.0 && nat_le back.sched.0 (there.sched.0 + there.block + 1440)

-- the aircraft of two that exchange legs are in range, and so are the leg and the aircraft of a leg that is restored
abbrev pub AreInRange : Situation → LegUnit → Type 0
AreInRange I (units.Swapped first second) = (first.0 < planes_of I) × (second.0 < planes_of I)
AreInRange I (units.Restored leg plane) = (leg.0 < legs_of I) × (plane.0 < planes_of I)
AreInRange I other = ⊥

-- a run from leg x on goes to an aircraft in range
abbrev pub IsHandedOf : Situation → ℕ → LegUnit → Type 0
IsHandedOf I x (units.Handed leg count plane) = (leg.0 ≡ x) × (plane.0 < planes_of I)
IsHandedOf I x other = ⊥

-- leg x departs so many minutes later than at a moment
abbrev pub later_choice : Leg → ℕ → ℕ → Choice
later_choice leg departs later = Depart leg (minute (departs + later))

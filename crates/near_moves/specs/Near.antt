-- The moves near a plan, in the order in which they are tried.
use Rattle.std.specs.Prelude.{ℕ, ◌%◌, Bool, true, ◌&&◌, nat_lt, ◌==◌, List, [], ◌∷◌, ◌++◌, map, filter}
use Rattle.std.specs.List.{flat_map, list_all}
use Rattle.desk_data.specs.declared.row.Row.{Row}
use Rattle.desk_data.specs.declared.row.Row.TheVariants.{Flown, Cancelled}
use Rattle.desk_data.specs.Situation.{Situation}
use Rattle.desk_data.specs.PlanRows.{PlanRows}
use Rattle.plan_moves.specs.declared.moves.Move.{Move}
use Rattle.plan_moves.specs.declared.moves.Step.{Step}
use Rattle.plan_moves.specs.declared.moves.Step.TheVariants.{Set, Swap}
use Rattle.near_moves.specs.Units.{MoveUnit, retimed, swapped, dropped, restored, handed, rebooked, owner}
use Rattle.near_moves.specs.LegMoves.{retimings, retimed_units, exchanges, swapped_units, droppings, dropped_units, restorings, restored_units, handing, handed_units}
use Rattle.near_moves.specs.PassengerMoves.{rebookings, rebooked_units}

-- the units of the five neighbourhoods of legs and aircraft, N1 to N5, and of all six
unfoldable pub leg_units : Situation → PlanRows → List MoveUnit
leg_units I P = retimed_units I P ++ swapped_units I ++ dropped_units I P ++ restored_units I P ++ handed_units I P

unfoldable pub units : Situation → PlanRows → List MoveUnit
units I P = leg_units I P ++ rebooked_units I P

-- the steps of the moves of a unit
unfoldable pub unit_steps : Situation → PlanRows → MoveUnit → List (List Step)
unit_steps I P (retimed x) = retimings I P x
unit_steps I P (swapped p q) = exchanges I P p q
unit_steps I P (dropped x) = droppings I P x
unit_steps I P (restored x p) = restorings I P x p
unit_steps I P (handed x k q) = handing I P x k q ∷ []
unit_steps I P (rebooked r path) = rebookings I P r path

-- whether the departures that a step names are before minute 52,500,000
abbrev pub row_in_time : Row → Bool
row_in_time (Flown plane dep) = nat_lt dep.0 52500000
row_in_time Cancelled = true

abbrev pub step_in_time : Step → Bool
step_in_time (Set leg was new) = row_in_time was && row_in_time new
step_in_time (Swap first second at) = nat_lt at.0 52500000
step_in_time other = true

abbrev pub move_of : List Step → Move
move_of steps = record { steps = steps }

-- the moves of a unit: one that would depart at minute 52,500,000 or later is left out
unfoldable pub unit_moves : Situation → PlanRows → MoveUnit → List Move
unit_moves I P u = map move_of (filter (list_all step_in_time) (unit_steps I P u))

-- the moves of some units, one unit after another
abbrev pub moves_of : Situation → PlanRows → List MoveUnit → List Move
moves_of I P us = flat_map (unit_moves I P) us

-- all moves near a plan
unfoldable pub near : Situation → PlanRows → List Move
near I P = moves_of I P (units I P)

-- the units whose owner's number leaves s when it is divided by n
abbrev pub of_shard : ℕ → ℕ → List MoveUnit → List MoveUnit
of_shard s n us = filter (λ u. owner u % n == s) us

-- a shard of the moves: those of such units
unfoldable pub shard : Situation → PlanRows → ℕ → ℕ → List Move
shard I P s n = moves_of I P (of_shard s n (units I P))

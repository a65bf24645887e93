-- The moves that are left.
use Rattle.std.specs.Prelude.{◌≡◌, ℕ, ◌<◌, not, List, [], ◌∷◌, ◌++◌, length, drop, map, filter, Option, Some, None}
use Rattle.std.specs.List.{flat_map}
use Rattle.desk_units.specs.declared.numbers.Leg.{Leg}
use Rattle.desk_units.specs.declared.numbers.Cabin.{Cabin}
use Rattle.desk_data.specs.Situation.{Situation, reservations_of}
use Rattle.desk_data.specs.PlanRows.{PlanRows, groups_at, same_path}
use Rattle.plan_moves.specs.declared.moves.Move.{Move}
use Rattle.desk_model.specs.Rebook.{count_on}
use Rattle.near_pax.specs.Flights.{IsNetOf}
use Rattle.near_moves.specs.Units.{MoveUnit}
use Rattle.near_moves.specs.PassengerMoves.{aims, portions, rebooking}
use Rattle.near_moves.specs.Near.{move_of, unit_moves, moves_of}
use Rattle.near_pax.specs.declared.unit.Made.{Made}
use Rattle.near_pax.specs.declared.unit.PaxUnit.{PaxUnit}
use Rattle.near_pax.specs.declared.pax.PaxMoves.{PaxMoves}
use Rattle.near_pax.specs.Units.{path_at, unit_at, left_units}

-- what a call gave is the first of the moves that were left, if there was any
abbrev pub Gives : Option Move → List Move → List Move → Type 0
Gives None before after = (before ≡ []) × (after ≡ [])
Gives (Some m) before after = before ≡ m ∷ after

-- where passengers on a path of reservation r may go
abbrev pub other_aims : Situation → PlanRows → ℕ → List (Leg × Cabin) → List (List (Leg × Cabin))
other_aims I P r path = filter (λ aim. not (same_path path aim)) (aims I P r)

-- the moves off a path to one aim
abbrev pub moves_to : ℕ → List (Leg × Cabin) → List ℕ → List (Leg × Cabin) → List Move
moves_to r path counts aim = map (λ count. move_of (rebooking r path aim count)) counts

-- those that are left to an aim from a count on, and those to all later aims
unfoldable pub left_of_made : ℕ → List (Leg × Cabin) → Made → List Move
left_of_made r path made = drop made.count (flat_map (moves_to r path made.counts.items) (drop made.aim made.aims.items))

-- what was made for a path of reservation r
pub record IsMade (I : Situation) (P : PlanRows) (r : ℕ) (path : List (Leg × Cabin)) (made : Made) : Type 0 where
  pub aims : made.aims.items ≡ other_aims I P r path
  pub counts : made.counts.items ≡ portions (count_on path (groups_at P r))
  pub within : made.count < length made.counts.items

-- if anything was
abbrev pub IsMadeIfAny : Situation → PlanRows → ℕ → List (Leg × Cabin) → Option Made → Type 0
IsMadeIfAny I P r path None = Unit {0}
IsMadeIfAny I P r path (Some made) = IsMade I P r path made

pub record IsUnit (I : Situation) (P : PlanRows) (u : PaxUnit) : Type 0 where
  pub res : u.res.0 < reservations_of I
  pub place : u.place < length (groups_at P u.res.0)
  pub made : IsMadeIfAny I P u.res.0 (path_at P u.res.0 u.place) u.made

-- the moves that are left of a unit: all of them, before any was asked for
abbrev pub left_if_made : Situation → PlanRows → ℕ → ℕ → Option Made → List Move
left_if_made I P r place None = unit_moves I P (unit_at P r place)
left_if_made I P r place (Some made) = left_of_made r (path_at P r place) made

unfoldable pub left_of_unit : Situation → PlanRows → PaxUnit → List Move
left_of_unit I P u = left_if_made I P u.res.0 u.place u.made

-- the same of a unit that may not be there
abbrev pub IsUnitIfAny : Situation → PlanRows → Option PaxUnit → Type 0
IsUnitIfAny I P None = Unit {0}
IsUnitIfAny I P (Some u) = IsUnit I P u

abbrev pub left_if_any : Situation → PlanRows → Option PaxUnit → List Move
left_if_any I P None = []
left_if_any I P (Some u) = left_of_unit I P u

-- these are moves of passengers near plan P of day I
pub record IsOf (I : Situation) (P : PlanRows) (moves : PaxMoves) : Type 0 where
  pub net : IsNetOf I P moves.net
  pub shards : 0 < moves.units.shards
  pub unit : IsUnitIfAny I P moves.unit

-- the moves that are left of the unit at hand, and the units after it
unfoldable pub unit_left : Situation → PlanRows → PaxMoves → List Move
unit_left I P moves = left_if_any I P moves.unit

unfoldable pub units_left : Situation → PlanRows → PaxMoves → List MoveUnit
units_left I P moves = left_units I P moves.units

-- all moves that are left
abbrev pub left : Situation → PlanRows → PaxMoves → List Move
left I P moves = unit_left I P moves ++ moves_of I P (units_left I P moves)

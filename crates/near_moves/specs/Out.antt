-- Why a move of a unit of legs is known not to be better.
use Rattle.std.specs.Prelude.{◌≡◌, ℕ, ◌≤◌, true, List, ◌∷◌}
use Rattle.std.specs.List.{list_all}
use Rattle.desk_data.specs.declared.row.Row.TheVariants.{Cancelled}
use Rattle.desk_data.specs.Situation.{Situation}
use Rattle.desk_data.specs.PlanRows.{PlanRows}
use Rattle.plan_moves.specs.declared.moves.Move.{Move}
use Rattle.plan_moves.specs.declared.moves.Step.{Step}
use Rattle.plan_moves.specs.declared.moves.Step.TheVariants.{Set, Swap}
use Rattle.desk_rules.specs.Cost.{cost}
use Rattle.desk_model.specs.Steps.{after_move}
use Rattle.near_moves.specs.MoveParts.{plane, minute, flown_row}
use Rattle.near_moves.specs.Units.{MoveUnit, handed}
use Rattle.near_moves.specs.Chains.{keeps_aircraft, IsHandedInVain, IsSwappedInVain, IsRestoredInVain}
use Rattle.near_moves.specs.Steps.{unit_planes, unit_legs}
use Rattle.near_moves.specs.Own.{BreaksOwn}

-- a move begins with the exchange of legs of two aircraft of a unit, in vain
pub record SwapsInVain (I : Situation) (P : PlanRows) (u : MoveUnit) (m : Move) : Type 0 where
  pub first : ℕ
  pub second : ℕ
  pub at : ℕ
  pub others : List Step
  pub steps : m.steps ≡ Swap (plane first) (plane second) (minute at) ∷ others
  pub keeps : list_all keeps_aircraft others ≡ true
  pub own : unit_planes P u first ≡ true
  pub other_own : unit_planes P u second ≡ true
  pub vain : IsSwappedInVain I P first second at

-- it begins with a leg of a unit that one of its aircraft flies again, in vain
pub record RestoresInVain (I : Situation) (P : PlanRows) (u : MoveUnit) (m : Move) : Type 0 where
  pub leg : ℕ
  pub plane : ℕ
  pub at : ℕ
  pub others : List Step
  pub steps : m.steps ≡ Set (record { 0 = leg }) Cancelled (flown_row plane at) ∷ others
  pub keeps : list_all keeps_aircraft others ≡ true
  pub own : unit_planes P u plane ≡ true
  pub own_leg : unit_legs I P u leg ≡ true
  pub vain : IsRestoredInVain I P leg plane

-- the unit hands a run on in vain
pub record HandsInVain (I : Situation) (P : PlanRows) (u : MoveUnit) : Type 0 where
  pub leg : ℕ
  pub count : ℕ
  pub plane : ℕ
  pub is : u ≡ handed leg count plane
  pub vain : IsHandedInVain I P leg count plane

-- it is known that a move of a unit is not better
pub data IsOut (I : Situation) (P : PlanRows) (u : MoveUnit) (m : Move) : Type 0 where
  -- it makes the plan no cheaper
  dear : cost I P ≤ cost I (after_move I P m) → IsOut I P u m
  -- it breaks C2 or C4 to C7 of a leg of the unit's aircraft
  breaks : BreaksOwn (unit_planes P u) I P m → IsOut I P u m
  -- it gives legs in vain, as the aircraft stand
  swaps : SwapsInVain I P u m → IsOut I P u m
  restores : RestoresInVain I P u m → IsOut I P u m
  hands : HandsInVain I P u → IsOut I P u m

-- The walk over the units of legs and aircraft: neighbourhood by neighbourhood, owner by owner.
use Rattle.std.specs.Prelude.{◌≡◌, ℕ, ◌+◌, ◌-◌, ◌*◌, ◌<◌, ◌≤◌, ◌%◌, Bool, true, false, not, ◌==◌, ◌&&◌, nat_le, is_none, if◌then◌else◌, List, [], ◌∷◌, ◌++◌, length, map, filter, drop, All, Option, Some, None}
use Rattle.std.specs.List.{flat_map}
use Rattle.desk_data.specs.Situation.{Situation, legs_of, planes_of, leg_at, plane_at}
use Rattle.desk_data.specs.PlanRows.{PlanRows}
use Rattle.plan_moves.specs.declared.moves.Move.{Move}
use Rattle.plan_moves.specs.Fits.{Fits}
use Rattle.desk_rules.specs.Numbers.{numbers}
use Rattle.near_moves.specs.MoveParts.{is_movable_flown, is_restorable, family_of, is_run}
use Rattle.near_moves.specs.Units.{MoveUnit, retimed, swapped, dropped, restored, handed}
use Rattle.near_moves.specs.LegMoves.{later_of_family, run_lengths, others_of_family}
use Rattle.near_moves.specs.Near.{moves_of}
use Rattle.near_legs.specs.declared.unit.LegUnit.{LegUnit}
use Rattle.near_legs.specs.declared.neighbourhood.Neighbourhood.{Neighbourhood}
use Rattle.near_legs.specs.declared.neighbourhood.Neighbourhood.TheVariants as neighbourhood
use Rattle.near_legs.specs.LegTables.{Lists, AreLists}
use Rattle.near_legs.specs.Choices.{unit_of, IsLegUnit}

-- how many owners a neighbourhood has: aircraft, or legs
abbrev pub owners : Situation → Neighbourhood → ℕ
owners I neighbourhood.Retimed = legs_of I
owners I neighbourhood.Swapped = planes_of I
owners I neighbourhood.Dropped = legs_of I
owners I neighbourhood.Restored = legs_of I
owners I neighbourhood.Handed = legs_of I

-- what there is to hand on of the run of k legs from leg x on
abbrev pub handed_of_run : Situation → PlanRows → ℕ → ℕ → List MoveUnit
handed_of_run I P x k = map (handed x k) (others_of_family I P x)

-- the units of an owner
abbrev pub owned : Situation → PlanRows → Neighbourhood → ℕ → List MoveUnit
owned I P neighbourhood.Retimed x = if is_movable_flown I P x then retimed x ∷ [] else []
owned I P neighbourhood.Swapped p = if not (plane_at I p).surface then map (swapped p) (later_of_family I p) else []
owned I P neighbourhood.Dropped x = if is_movable_flown I P x then dropped x ∷ [] else []
owned I P neighbourhood.Restored x = if is_restorable I P x then map (restored x) (family_of I (leg_at I x).plane.0) else []
owned I P neighbourhood.Handed x = if is_movable_flown I P x then flat_map (handed_of_run I P x) (filter (is_run I P x) run_lengths) else []

-- the same where the owner is of shard s of n
abbrev pub owned_in : Situation → PlanRows → ℕ → ℕ → Neighbourhood → ℕ → List MoveUnit
owned_in I P s n f o = if o % n == s then owned I P f o else []

-- the units of a neighbourhood from an owner on
unfoldable pub rest_of : Situation → PlanRows → ℕ → ℕ → Neighbourhood → ℕ → List MoveUnit
rest_of I P s n f o = flat_map (owned_in I P s n f) (drop o (numbers (owners I f)))

-- the neighbourhood after a neighbourhood
abbrev pub next_neighbourhood : Neighbourhood → Option Neighbourhood
next_neighbourhood neighbourhood.Retimed = Some neighbourhood.Swapped
next_neighbourhood neighbourhood.Swapped = Some neighbourhood.Dropped
next_neighbourhood neighbourhood.Dropped = Some neighbourhood.Restored
next_neighbourhood neighbourhood.Restored = Some neighbourhood.Handed
next_neighbourhood neighbourhood.Handed = None

-- the units of the neighbourhoods after a neighbourhood
abbrev pub after_neighbourhood : Situation → PlanRows → ℕ → ℕ → Neighbourhood → List MoveUnit
after_neighbourhood I P s n neighbourhood.Handed = []
after_neighbourhood I P s n neighbourhood.Restored = rest_of I P s n neighbourhood.Handed 0
after_neighbourhood I P s n neighbourhood.Dropped = rest_of I P s n neighbourhood.Restored 0 ++ rest_of I P s n neighbourhood.Handed 0
after_neighbourhood I P s n neighbourhood.Swapped = rest_of I P s n neighbourhood.Dropped 0 ++ (rest_of I P s n neighbourhood.Restored 0 ++ rest_of I P s n neighbourhood.Handed 0)
after_neighbourhood I P s n neighbourhood.Retimed = rest_of I P s n neighbourhood.Swapped 0 ++ (rest_of I P s n neighbourhood.Dropped 0 ++ (rest_of I P s n neighbourhood.Restored 0 ++ rest_of I P s n neighbourhood.Handed 0))

-- where a walk stands: after the owners below one of a neighbourhood, with some units of the owner before still to give
pub record UnitWalk : Type 0 where
  pub lists : Lists
  pub shard : ℕ
  pub shards : ℕ
  pub neighbourhood : Neighbourhood
  pub owner : ℕ
  pub at_hand : List LegUnit

-- the units that a walk has still to give
abbrev pub units_left : Situation → PlanRows → UnitWalk → List MoveUnit
units_left I P W = map unit_of W.at_hand ++ (rest_of I P W.shard W.shards W.neighbourhood W.owner ++ after_neighbourhood I P W.shard W.shards W.neighbourhood)

-- a walk over the units near plan P
pub record IsUnitWalk (I : Situation) (P : PlanRows) (W : UnitWalk) : Type 0 where
  pub lists : AreLists I P W.lists
  pub shard : W.shard < W.shards
  pub owner : W.owner ≤ owners I W.neighbourhood
  pub at_hand : All (IsLegUnit I P) W.at_hand

-- the same of moves: those that are made of the unit before, and a walk over the units
pub record MoveWalk : Type 0 where
  pub units : UnitWalk
  pub made : List Move

-- the moves that a walk has still to give
abbrev pub left : Situation → PlanRows → MoveWalk → List Move
left I P W = W.made ++ moves_of I P (units_left I P W.units)

-- a walk over the moves near plan P, each of which can be asked about
pub record IsOf (I : Situation) (P : PlanRows) (W : MoveWalk) : Type 0 where
  pub units : IsUnitWalk I P W.units
  pub fits : All (Fits I) (left I P W)

-- how far a walk is from its end
abbrev pub rank : Neighbourhood → ℕ
rank neighbourhood.Retimed = 0
rank neighbourhood.Swapped = 1
rank neighbourhood.Dropped = 2
rank neighbourhood.Restored = 3
rank neighbourhood.Handed = 4

abbrev pub places_left : UnitWalk → ℕ
places_left W = 100005 - (20001 * rank W.neighbourhood + W.owner)

-- whether no owner is left
abbrev pub is_at_end : Situation → UnitWalk → Bool
is_at_end I W = nat_le (owners I W.neighbourhood) W.owner && is_none (next_neighbourhood W.neighbourhood)

-- the walk at the first owner of the next neighbourhood, if there is one
abbrev pub at_neighbourhood : UnitWalk → Option Neighbourhood → UnitWalk
at_neighbourhood W None = W
at_neighbourhood W (Some next) = record W { neighbourhood = next; owner = 0 }

abbrev pub at_next_neighbourhood : UnitWalk → UnitWalk
at_next_neighbourhood W = at_neighbourhood W (next_neighbourhood W.neighbourhood)

-- the next unit of a walk is at hand, or none is left
abbrev pub IsNextUnit : Situation → PlanRows → UnitWalk → Option LegUnit → Type 0
IsNextUnit I P W None = units_left I P W ≡ []
IsNextUnit I P W (Some u) = IsLegUnit I P u × (W.at_hand ≡ u ∷ drop 1 W.at_hand)

-- the moves of one more unit are made, or no move is left
abbrev pub HasMade : Situation → PlanRows → MoveWalk → MoveWalk → Bool → Type 0
HasMade I P old new true = length (units_left I P new.units) < length (units_left I P old.units)
HasMade I P old new false = left I P new ≡ []

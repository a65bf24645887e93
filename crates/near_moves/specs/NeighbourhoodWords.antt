-- The six neighbourhoods of units in words.
use Rattle.std.specs.Prelude.{◌≡◌, ℕ, ◌^◌, ◌<◌, ◌⊎◌, false, List, [], Contains}
use Rattle.desk_units.specs.declared.numbers.Leg.{Leg}
use Rattle.desk_units.specs.declared.numbers.Cabin.{Cabin}
use Rattle.desk_data.specs.declared.row.Row.TheVariants.{Cancelled}
use Rattle.desk_data.specs.declared.row.Group.{Group}
use Rattle.desk_data.specs.Situation.{Situation, legs_of, planes_of, reservations_of, leg_at, plane_at, fixed, called_off}
use Rattle.desk_data.specs.PlanRows.{PlanRows, row_at, groups_at}
use Rattle.desk_rules.specs.Words.{Flies}
use Rattle.near_moves.specs.Units.{MoveUnit, retimed, dropped, restored, rebooked}
use Rattle.near_moves.specs.Words.{ExchangesTwo, HandsRun}
use Rattle.near_moves.specs.RouteWords.{IsRoute}

-- leg x is movable, and an aircraft flies it
pub record IsMovableLeg (I : Situation) (P : PlanRows) (x : ℕ) : Type 0 where
  pub within : x < legs_of I
  pub movable : fixed I x ≡ false
  pub plane : ℕ
  pub dep : ℕ
  pub flown : Flies P x plane dep

-- leg x is movable, and cancelled though it is not called off; aircraft p is of the family of its scheduled aircraft
pub record MayFlyAgain (I : Situation) (P : PlanRows) (x p : ℕ) : Type 0 where
  pub within : x < legs_of I
  pub movable : fixed I x ≡ false
  pub cancelled : row_at P x ≡ Cancelled
  pub kept : called_off I x ≡ false
  pub planes : p < planes_of I
  pub family : (plane_at I p).family ≡ (plane_at I (leg_at I x).plane.0).family

-- a group of passengers of reservation r is on the path
pub record HasPassengers (I : Situation) (P : PlanRows) (r : ℕ) (path : List (Leg × Cabin)) : Type 0 where
  pub within : r < reservations_of I
  pub group : Group
  pub there : Contains (groups_at P r) group
  pub on : group.path ≡ path

-- a unit is of one of the six neighbourhoods, N1 to N6
pub data IsUnit (I : Situation) (P : PlanRows) (u : MoveUnit) : Type 0 where
  -- a movable leg that is flown departs at another time
  retimes : (x : ℕ) → IsMovableLeg I P x → u ≡ retimed x → IsUnit I P u
  -- two aircraft of a family exchange their legs
  swaps : ExchangesTwo I u → IsUnit I P u
  -- legs from a movable leg that is flown on are cancelled
  drops : (x : ℕ) → IsMovableLeg I P x → u ≡ dropped x → IsUnit I P u
  -- a cancelled leg is flown again, by an aircraft of the family
  restores : (x p : ℕ) → MayFlyAgain I P x p → u ≡ restored x p → IsUnit I P u
  -- a run goes to another aircraft of the family
  hands : HandsRun I P u → IsUnit I P u
  -- passengers leave the path that they are on
  rebooks : (r : ℕ) (path : List (Leg × Cabin)) → HasPassengers I P r path → u ≡ rebooked r path → IsUnit I P u

-- k is a power of two below n
pub record IsPowerBelow (n k : ℕ) : Type 0 where
  pub exponent : ℕ
  pub power : k ≡ 2 ^ exponent
  pub below : k < n

-- of n passengers k may go: all of them, or a power of two below n
abbrev pub IsPortion : ℕ → ℕ → Type 0
IsPortion n k = (k ≡ n) ⊎ IsPowerBelow n k

-- passengers of reservation r may go to each route, and off all paths
abbrev pub IsAim : Situation → PlanRows → ℕ → List (Leg × Cabin) → Type 0
IsAim I P r path = IsRoute I P r path ⊎ (path ≡ [])

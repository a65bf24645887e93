-- Plans that are the same where some aircraft are concerned.
--
-- P is the plan at which no move of a unit was better, and Q the later one. Aircraft and legs are told by tests of their numbers.
use Rattle.std.specs.Prelude.{◌≡◌, ℕ, Bool, true, false, ◌⊎◌, length}
use Rattle.desk_data.specs.declared.row.Row.{Row}
use Rattle.desk_data.specs.declared.row.Row.TheVariants.{Flown, Cancelled}
use Rattle.desk_data.specs.PlanRows.{PlanRows, row_at}
use Rattle.desk_data.specs.Situation.{Situation}
use Rattle.desk_rules.specs.Maintenance.{flies}
use Rattle.desk_rules.specs.Passengers.{is_flown}
use Rattle.near_moves.specs.MoveParts.{flier}
use Rattle.near_moves.specs.Units.{MoveUnit, retimed, swapped, dropped, restored, handed, rebooked}
use Rattle.near_moves.specs.LegMoves.{brings_back}

-- aircraft p flies the same legs with the same rows in both plans: each leg has one row in both, or p flies it in neither
abbrev pub FliesSame : PlanRows → PlanRows → ℕ → Type 0
FliesSame P Q p = (x : ℕ) → (row_at P x ≡ row_at Q x) ⊎ ((flies P p x ≡ false) × (flies Q p x ≡ false))

-- the aircraft of a unit of legs fly the same in both plans, and the same cancelled legs lead back from a leg that is flown again
abbrev pub FlyUnitSame : Situation → PlanRows → PlanRows → MoveUnit → Type 0
FlyUnitSame I P Q (retimed x) = (is_flown (row_at P x) ≡ true) × FliesSame P Q (flier (row_at P x))
FlyUnitSame I P Q (swapped p q) = FliesSame P Q p × FliesSame P Q q
FlyUnitSame I P Q (dropped x) = (is_flown (row_at P x) ≡ true) × FliesSame P Q (flier (row_at P x))
FlyUnitSame I P Q (restored x p) = FliesSame P Q p × ((y : ℕ) → brings_back I P x y ≡ brings_back I Q x y)
FlyUnitSame I P Q (handed x k q) = (is_flown (row_at P x) ≡ true) × FliesSame P Q (flier (row_at P x)) × FliesSame P Q q
FlyUnitSame I P Q (rebooked r path) = ⊥

-- whether one of some aircraft flies a row
abbrev pub is_of : (ℕ → Bool) → Row → Bool
is_of planes (Flown plane dep) = planes plane.0
is_of planes Cancelled = false

-- a leg of a unit is flown by one of its aircraft, or cancelled
abbrev pub IsOwn : (ℕ → Bool) → Row → Type 0
IsOwn planes row = (is_of planes row ≡ true) ⊎ (row ≡ Cancelled)

-- two plans agree on some aircraft and some legs: each of these legs has one row in both, flown by one of these aircraft or cancelled, and one of these aircraft flies no other leg in either
pub record AgreeOn (planes legs : ℕ → Bool) (P Q : PlanRows) : Type 0 where
  pub many : length P.rows ≡ length Q.rows
  pub same : (x : ℕ) → legs x ≡ true → row_at P x ≡ row_at Q x
  pub own : (x : ℕ) → legs x ≡ true → IsOwn planes (row_at P x)
  pub before : (x : ℕ) → legs x ≡ false → is_of planes (row_at P x) ≡ false
  pub now : (x : ℕ) → legs x ≡ false → is_of planes (row_at Q x) ≡ false

-- Aircraft, and legs that may be flown again, on which nothing hangs that changed.
--
-- P is the plan at which no move of a unit was better, and Q the later one.
use Rattle.std.specs.Prelude.{◌≡◌, ℕ, ◌+◌, ◌<◌, ◌≤◌, Bool, true, false, ◌⊎◌, All}
use Rattle.std.specs.List.{list_any}
use Rattle.desk_data.specs.declared.row.Row.TheVariants.{Cancelled}
use Rattle.desk_data.specs.Booked.{booked_path}
use Rattle.desk_data.specs.Hours.{dep_cap, arr_cap}
use Rattle.desk_data.specs.Situation.{Situation, leg_at, plane_at, reservations_of}
use Rattle.desk_data.specs.PlanRows.{PlanRows, row_at, groups_at}
use Rattle.desk_rules.specs.Cost.{at_hand, is_wanted}
use Rattle.desk_rules.specs.Maintenance.{flies}
use Rattle.desk_model.specs.Push.{departures_beside, arrivals_beside}
use Rattle.near_moves.specs.Units.{MoveUnit, retimed, swapped, dropped, restored, handed, rebooked}
use Rattle.near_moves.specs.LegMoves.{brings_back}
use Rattle.near_moves.specs.Same.{FliesSame}
use Rattle.near_moves.specs.Steps.{unit_restores}
use Rattle.near_moves.specs.Room.{count_from, count_to, IsSameRoom}
use Rattle.near_untouched.specs.Dearer.{IsSameReservation, is_booked_on, HasSameSeats}

-- whether somebody of reservation r is on one of some legs
abbrev pub is_on : (ℕ → Bool) → PlanRows → ℕ → Bool
is_on legs P r = list_any (λ group. list_any (λ pair. legs pair.0.0) group.path) (groups_at P r)

-- nothing changed beside some legs that moves of them hang on, nor moves of them and of other such legs. At most half of `most` of them leave one
-- airport, or reach one. Each hour of their airports has as many other legs as before, or in both plans room for one more than `most` beside them.
-- Each reservation on them in either plan, or booked on one of them, has the same groups on legs with the same rows, and the legs of the scheduled
-- path of one that is booked have the same seats
pub record AreUntouchedLegs (most : ℕ) (legs : ℕ → Bool) (I : Situation) (P Q : PlanRows) : Type 0 where
  pub few_from : (a : ℕ) → count_from legs I a + count_from legs I a ≤ most
  pub few_to : (a : ℕ) → count_to legs I a + count_to legs I a ≤ most
  pub departures : (x h : ℕ) → legs x ≡ true → IsSameRoom most (departures_beside I P x (leg_at I x).origin.0 h) (departures_beside I Q x (leg_at I x).origin.0 h) (dep_cap I (leg_at I x).origin.0 h)
  pub arrivals : (x h : ℕ) → legs x ≡ true → IsSameRoom most (arrivals_beside I P x (leg_at I x).dest.0 h) (arrivals_beside I Q x (leg_at I x).dest.0 h) (arr_cap I (leg_at I x).dest.0 h)
  pub on : (r : ℕ) → r < reservations_of I → is_on legs P r ≡ true → IsSameReservation P Q r
  pub on_later : (r : ℕ) → r < reservations_of I → is_on legs Q r ≡ true → IsSameReservation P Q r
  pub booked : (r : ℕ) → r < reservations_of I → is_booked_on legs I r ≡ true → IsSameReservation P Q r
  pub seats : (r : ℕ) → r < reservations_of I → is_booked_on legs I r ≡ true → HasSameSeats P Q (booked_path I r)

-- aircraft p is untouched: it flies the same legs with the same rows, which are untouched, and each position that wants it has as many aircraft at hand
pub record IsUntouchedPlane (most : ℕ) (I : Situation) (P Q : PlanRows) (p : ℕ) : Type 0 where
  pub flown : FliesSame P Q p
  pub legs : AreUntouchedLegs most (flies P p) I P Q
  pub positions : All (λ position. (at_hand I P position ≡ at_hand I Q position) ⊎ (is_wanted position (plane_at I p) ≡ false)) I.parts.positions

-- the legs that aircraft p may fly again with leg x are untouched: they are cancelled in both plans, and the same ones lead back
pub record IsUntouchedAgain (most : ℕ) (I : Situation) (P Q : PlanRows) (x p : ℕ) : Type 0 where
  pub cancelled : (y : ℕ) → unit_restores I P (restored x p) y ≡ true → row_at P y ≡ Cancelled
  pub later : (y : ℕ) → unit_restores I P (restored x p) y ≡ true → row_at Q y ≡ Cancelled
  pub backs : (y : ℕ) → brings_back I P x y ≡ brings_back I Q x y
  pub legs : AreUntouchedLegs most (unit_restores I P (restored x p)) I P Q

-- what is untouched of a unit beside its aircraft: the legs that it may fly again. A rebooking is no unit of legs
abbrev pub AreUntouchedBeside : ℕ → Situation → PlanRows → PlanRows → MoveUnit → Type 0
AreUntouchedBeside most I P Q (retimed x) = Unit {0}
AreUntouchedBeside most I P Q (swapped p q) = Unit {0}
AreUntouchedBeside most I P Q (dropped x) = Unit {0}
AreUntouchedBeside most I P Q (restored x p) = IsUntouchedAgain most I P Q x p
AreUntouchedBeside most I P Q (handed x k q) = Unit {0}
AreUntouchedBeside most I P Q (rebooked r path) = ⊥

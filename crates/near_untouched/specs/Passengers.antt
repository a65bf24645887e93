-- Reservations that are not the same in a later plan, and the legs that have to do with one.
--
-- P is the earlier plan, and Q the later one.
use Rattle.std.specs.Prelude.{◌≡◌, ℕ, ◌<◌, Bool, true, false, ◌==◌, ◌⊎◌, List, All}
use Rattle.desk_units.specs.declared.numbers.Leg.{Leg}
use Rattle.desk_units.specs.declared.numbers.Cabin.{Cabin}
use Rattle.desk_data.specs.Booked.{booked_path}
use Rattle.desk_data.specs.Situation.{Situation, reservations_of}
use Rattle.desk_data.specs.PlanRows.{PlanRows, row_at, groups_at}
use Rattle.near_untouched.specs.Dearer.{IsSameReservation, is_booked_on, HasSameSeats}
use Rattle.near_untouched.specs.Planes.{is_on}
use Rattle.near_untouched.specs.Marks.{is_marked, AreLegsMarked, ArePathsMarked}

-- reservation r has the same groups in both plans, or the legs of their paths in both are marked
abbrev pub IsRegroupedTold : PlanRows → PlanRows → List Bool → ℕ → Type 0
IsRegroupedTold P Q regrouped r = (groups_at P r ≡ groups_at Q r) ⊎ (ArePathsMarked regrouped (groups_at P r) × ArePathsMarked regrouped (groups_at Q r))

-- the legs are marked on which somebody of reservation r is, in the one plan or the other, or on which it is booked
pub record IsAllMarked (I : Situation) (P Q : PlanRows) (touched : List Bool) (r : ℕ) : Type 0 where
  pub before : ArePathsMarked touched (groups_at P r)
  pub now : ArePathsMarked touched (groups_at Q r)
  pub booked : AreLegsMarked touched (booked_path I r)

-- reservation r is the same in both plans, or all those are marked
abbrev pub IsUserTold : Situation → PlanRows → PlanRows → List Bool → ℕ → Type 0
IsUserTold I P Q touched r = IsSameReservation P Q r ⊎ IsAllMarked I P Q touched r

-- a path keeps its seats: each of its legs has the same row in both plans, and nobody is on it whose reservation has other groups
abbrev pub KeepsSeats : PlanRows → PlanRows → List Bool → List (Leg × Cabin) → Type 0
KeepsSeats P Q regrouped path = All (λ pair. (row_at P pair.0.0 ≡ row_at Q pair.0.0) × (is_marked regrouped pair.0.0 ≡ false)) path

-- the scheduled path of reservation r keeps its seats, or its legs are marked
abbrev pub IsBookedTold : Situation → PlanRows → PlanRows → List Bool → List Bool → ℕ → Type 0
IsBookedTold I P Q regrouped touched r = KeepsSeats P Q regrouped (booked_path I r) ⊎ AreLegsMarked touched (booked_path I r)

-- whether a leg is leg y
abbrev pub is_just : ℕ → ℕ → Bool
is_just y x = x == y

-- each reservation on leg y in either plan, or booked on it, is the same in both, and the legs of the scheduled path of one that is booked on it have the same seats
pub record HasSameUsers (I : Situation) (P Q : PlanRows) (y : ℕ) : Type 0 where
  pub on : (r : ℕ) → r < reservations_of I → is_on (is_just y) P r ≡ true → IsSameReservation P Q r
  pub on_later : (r : ℕ) → r < reservations_of I → is_on (is_just y) Q r ≡ true → IsSameReservation P Q r
  pub booked : (r : ℕ) → r < reservations_of I → is_booked_on (is_just y) I r ≡ true → IsSameReservation P Q r
  pub seats : (r : ℕ) → r < reservations_of I → is_booked_on (is_just y) I r ≡ true → HasSameSeats P Q (booked_path I r)

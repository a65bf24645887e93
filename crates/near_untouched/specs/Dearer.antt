-- What the cost of a move of legs hangs on beside rows, and where that is the same in two plans.
--
-- P is the plan at which the move was no cheaper, and Q the later one. Legs, aircraft and reservations are told by tests of their numbers.
use Rattle.std.specs.Prelude.{◌≡◌, ℕ, ◌<◌, Bool, true, false, ◌⊎◌, List, All}
use Rattle.std.specs.List.{list_any}
use Rattle.desk_units.specs.declared.numbers.Leg.{Leg}
use Rattle.desk_units.specs.declared.numbers.Cabin.{Cabin}
use Rattle.desk_data.specs.Booked.{booked_path}
use Rattle.desk_data.specs.Situation.{Situation, plane_at, reservations_of}
use Rattle.desk_data.specs.PlanRows.{PlanRows, row_at, groups_at}
use Rattle.desk_rules.specs.Cost.{at_hand, is_wanted}
use Rattle.desk_rules.specs.Passengers.{aboard}
use Rattle.near_memory.specs.Untouched.{HasSameRows}

-- reservation r has the same groups in both plans, and the legs of their paths have the same rows
pub record IsSameReservation (P Q : PlanRows) (r : ℕ) : Type 0 where
  pub groups : groups_at P r ≡ groups_at Q r
  pub paths : All (λ group. HasSameRows P Q group.path) (groups_at P r)

-- nobody of reservation r is on one of some legs
abbrev pub IsOffLegs : (ℕ → Bool) → PlanRows → ℕ → Type 0
IsOffLegs legs P r = All (λ group. All (λ pair. legs pair.0.0 ≡ false) group.path) (groups_at P r)

-- whether reservation r is booked on one of some legs
abbrev pub is_booked_on : (ℕ → Bool) → Situation → ℕ → Bool
is_booked_on legs I r = list_any (λ pair. legs pair.0.0) (booked_path I r)

-- each leg of a path has the same row in both plans, and as many passengers in each cabin
abbrev pub HasSameSeats : PlanRows → PlanRows → List (Leg × Cabin) → Type 0
HasSameSeats P Q path = All (λ pair. (row_at P pair.0.0 ≡ row_at Q pair.0.0) × ((c : Cabin) → aboard P pair.0.0 c ≡ aboard Q pair.0.0 c)) path

-- some reservations are the same in both plans, and nobody of the others is on one of some legs in either. Who is booked on a leg that is refilled is of the same ones, and the legs of the scheduled path have the same seats
pub record HaveSamePassengers (legs refilled touched : ℕ → Bool) (I : Situation) (P Q : PlanRows) : Type 0 where
  pub same : (r : ℕ) → r < reservations_of I → touched r ≡ true → IsSameReservation P Q r
  pub before : (r : ℕ) → r < reservations_of I → touched r ≡ false → IsOffLegs legs P r
  pub now : (r : ℕ) → r < reservations_of I → touched r ≡ false → IsOffLegs legs Q r
  pub booked : (r : ℕ) → r < reservations_of I → is_booked_on refilled I r ≡ true → touched r ≡ true
  pub seats : (r : ℕ) → r < reservations_of I → is_booked_on refilled I r ≡ true → HasSameSeats P Q (booked_path I r)

-- each position has as many aircraft at hand in both plans, or wants none of some aircraft
abbrev pub HaveSamePositions : (ℕ → Bool) → Situation → PlanRows → PlanRows → Type 0
HaveSamePositions planes I P Q = All (λ position. (at_hand I P position ≡ at_hand I Q position) ⊎ ((p : ℕ) → planes p ≡ true → is_wanted position (plane_at I p) ≡ false)) I.parts.positions

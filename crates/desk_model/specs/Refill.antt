-- Refill: passengers who are not carried go back to their scheduled path, as far as it has seats and C15 holds.
use Rattle.std.specs.Prelude.{◌≡◌, ℕ, ◌+◌, ◌≤◌, ◌⊎◌, Bool, true, false, ◌&&◌, nat_le, ◌==◌, if◌then◌else◌, List, [], All, fold}
use Rattle.std.specs.List.{list_all, list_any}
use Rattle.desk_units.specs.declared.numbers.Leg.{Leg}
use Rattle.desk_units.specs.declared.numbers.Cabin.{Cabin}
use Rattle.desk_data.specs.declared.row.Row.{Row}
use Rattle.desk_data.specs.declared.row.Row.TheVariants.{Flown, Cancelled}
use Rattle.desk_data.specs.Begun.{KeepsToLeft}
use Rattle.desk_data.specs.Situation.{Situation, reservations_of, plane_at, bound}
use Rattle.desk_data.specs.PlanRows.{PlanRows, row_at, groups_at}
use Rattle.desk_rules.specs.Numbers.{numbers}
use Rattle.desk_data.specs.Booked.{booked_path}
use Rattle.desk_rules.specs.Passengers.{aboard, seats_in}
use Rattle.desk_model.specs.Choices.{greatest_within}
use Rattle.desk_model.specs.Rebook.{passengers_on, count_on, groups_after_rebook, after_rebook}
use Rattle.desk_model.specs.Tidy.{is_fit_path}

-- the seats of a row in a cabin; a cancelled leg has none
abbrev pub seats_of : Situation → Cabin → Row → ℕ
seats_of I c (Flown plane dep) = seats_in (plane_at I plane.0).seats c
seats_of I c Cancelled = 0

-- whether each leg of a path has seats left for n more passengers in its cabin
unfoldable pub has_seats_for : Situation → PlanRows → List (Leg × Cabin) → ℕ → Bool
has_seats_for I P path n = list_all (λ pair. nat_le (aboard P pair.0.0 pair.1 + n) (seats_of I pair.1 (row_at P pair.0.0))) path

-- whether a path has leg x
abbrev pub has_leg : ℕ → List (Leg × Cabin) → Bool
has_leg x path = list_any (λ pair. pair.0.0 == x) path

-- whether n of reservation r's passengers who are not carried may go to its scheduled path: each leg of it has seats left for them, and the path is bound to what has begun and has left once they are on it
unfoldable pub may_refill : Situation → PlanRows → ℕ → ℕ → Bool
may_refill I P r n =
    has_seats_for I P (booked_path I r) n
    && bound I r (groups_after_rebook [] (booked_path I r) n (groups_at P r)) (booked_path I r)

-- how many of reservation r's passengers who are not carried go to its scheduled path: as many as may
unfoldable pub refill_count : Situation → PlanRows → ℕ → ℕ
refill_count I P r = greatest_within (count_on [] (groups_at P r)) (may_refill I P r)

-- whether reservation r is refilled: its scheduled path has leg x, and meets C13, C14 and C15
abbrev pub is_refilled : Situation → PlanRows → ℕ → ℕ → Bool
is_refilled I P x r = has_leg x (booked_path I r) && is_fit_path I P r (booked_path I r)

-- the plan once reservation r is looked at
abbrev pub after_refilling : Situation → ℕ → PlanRows → ℕ → PlanRows
after_refilling I x P r = if is_refilled I P x r then after_rebook P r [] (booked_path I r) (refill_count I P r) else P

-- Refill: one reservation after another, in ascending order, each in the plan as those before it left it
unfoldable pub after_refill : Situation → PlanRows → ℕ → PlanRows
after_refill I P x = fold (after_refilling I x) P (numbers (reservations_of I))

-- what a Refill of leg x makes of reservation r, of plan P before the step and plan Q after it
pub record RefillsReservation (I : Situation) (P Q : PlanRows) (x r : ℕ) : Type 0 where
  -- some passengers who are not carried go to the scheduled path, and nobody else goes anywhere
  pub count : ℕ
  pub going : (test : List (Leg × Cabin) → Bool) → passengers_on test (groups_at Q r) + (if test [] then count else 0) ≡ passengers_on test (groups_at P r) + (if test (booked_path I r) then count else 0)
  -- where the reservation is refilled, none is left who is not carried, or one more would lack a seat or break C15
  pub full : is_refilled I P x r ≡ true → (count_on [] (groups_at Q r) ≡ 0) ⊎ (may_refill I Q r 1 ≡ false)
  -- and C15 holds of the scheduled path then
  pub keeps : is_refilled I P x r ≡ true → KeepsToLeft I r (groups_at Q r) (booked_path I r)
  -- else it keeps its groups
  pub other : is_refilled I P x r ≡ false → groups_at Q r ≡ groups_at P r

-- each leg of a path has seats left for n more passengers in its cabin
abbrev pub HasSeatsFor : Situation → PlanRows → List (Leg × Cabin) → ℕ → Type 0
HasSeatsFor I P path n = All (λ pair. aboard P pair.0.0 pair.1 + n ≤ seats_of I pair.1 (row_at P pair.0.0)) path

-- a leg and cabin has as many passengers as before, or no more than seats
abbrev pub IsNotOverfilled : Situation → PlanRows → PlanRows → ℕ → Cabin → Type 0
IsNotOverfilled I P Q y c = (aboard Q y c ≡ aboard P y c) ⊎ (aboard Q y c ≤ seats_of I c (row_at Q y))

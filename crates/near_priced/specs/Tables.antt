-- What is looked up once of a plan: what those pay who are on each leg, who they are, and where aircraft end.
use Rattle.std.specs.Prelude.{◌≡◌, ℕ, ◌+◌, ◌-◌, ◌≤◌, ◌^◌, Bool, if◌then◌else◌, List, length, All, map, sum_by, slice_index_or, ◌&&◌}
use Rattle.desk_units.specs.declared.numbers.Leg.{Leg}
use Rattle.desk_units.specs.declared.numbers.Cabin.{Cabin}
use Rattle.desk_data.specs.declared.info.PositionInfo.{PositionInfo}
use Rattle.desk_data.specs.Situation.{Situation, legs_of, plane_at, reservations_of}
use Rattle.desk_data.specs.PlanRows.{PlanRows}
use Rattle.plan_moves.specs.declared.moves.Step.{Step}
use Rattle.plan_moves.specs.declared.moves.Step.TheVariants.{Set, Push, Swap, Rebook, Tidy, Refill}
use Rattle.desk_rules.specs.Numbers.{numbers}
use Rattle.desk_rules.specs.Cost.{at_hand, ends_at, is_wanted}
use Rattle.plan_checks.specs.Amounts.{reservation_cost}
use Rattle.plan_reads.specs.Last.{AreLasts}
use Rattle.board_kit.specs.Users.{HasUsers, has_user, uses, is_booked_on}
use Rattle.near_priced.specs.Payers.{AreCosts}
use Rattle.near_priced.specs.declared.payments.Payments.{Payments}

-- the amount of leg x
abbrev pub amount : List ℕ → ℕ → ℕ
amount amounts x = slice_index_or amounts x 0

-- that of the leg that a step refills, if it is a Refill
abbrev pub refill_amount : List ℕ → Step → ℕ
refill_amount amounts (Set leg was new) = 0
refill_amount amounts (Push plane after) = 0
refill_amount amounts (Swap first second at) = 0
refill_amount amounts (Rebook res path to count) = 0
refill_amount amounts Tidy = 0
refill_amount amounts (Refill leg) = amount amounts leg.0

-- no amount became less
abbrev pub AreNoLess : List ℕ → List ℕ → Type 0
AreNoLess old new = (x : ℕ) → amount old x ≤ amount new x

-- the amount of leg x grew by as much as c, or to 10^38: all passengers together cost no more
abbrev pub IsGrown : ℕ → List ℕ → List ℕ → ℕ → Type 0
IsGrown c old new x = (n : ℕ) → n ≤ amount old x + c → n ≤ 10 ^ 38 → n ≤ amount new x

-- those of the legs of a path did
abbrev pub AreGrown : ℕ → List ℕ → List ℕ → List (Leg × Cabin) → Type 0
AreGrown c old new path = All (λ pair. IsGrown c old new pair.0.0) path

-- what those of the first n reservations pay that pass a test
abbrev pub paid_first : Situation → PlanRows → (ℕ → Bool) → ℕ → ℕ
paid_first I P some n = sum_by (λ r. if some r then reservation_cost I P r else 0) (numbers n)

-- for each leg what those of the first n reservations pay that have somebody on it, or more, and what those pay that are booked on it, or more
pub record AreAmounts (I : Situation) (P : PlanRows) (on booked : List ℕ) (n : ℕ) : Type 0 where
  pub legs : length on ≡ legs_of I
  pub booked_legs : length booked ≡ legs_of I
  pub on_leg : (x : ℕ) → paid_first I P (uses P x) n ≤ amount on x
  pub booked_on_leg : (x : ℕ) → paid_first I P (is_booked_on I x) n ≤ amount booked x

-- whether aircraft p is at hand for a position
abbrev pub is_hand : Situation → PlanRows → PositionInfo → ℕ → Bool
is_hand I P position p = is_wanted position (plane_at I p) && ends_at I P p position.airport.0

-- how many aircraft all positions lack
abbrev pub lacking : Situation → PlanRows → ℕ
lacking I P = sum_by (λ position. position.count - at_hand I P position) I.parts.positions

-- what is looked up of plan P. Where there are too many positions, no aircraft at hand are told
pub record ArePayments (I : Situation) (P : PlanRows) (payments : Payments) : Type 0 where
  pub amounts : AreAmounts I P payments.on.items payments.booked.items (reservations_of I)
  pub costs : AreCosts I P payments.costs.items (reservations_of I)
  pub legs : length payments.users ≡ legs_of I
  pub users : HasUsers P (has_user payments.users)
  pub lasts : AreLasts I P (λ p. I.parts.to.0) (legs_of I) payments.lasts.items
  pub hands : length payments.hands.items ≡ length I.parts.positions → payments.hands.items ≡ map (at_hand I P) I.parts.positions

-- What is looked up again and again while moves of legs are made: it is worked out once.
use Rattle.std.specs.Prelude.{◌≡◌, ℕ, ◌+◌, ◌*◌, ◌<◌, Bool, true, false, ◌==◌, if◌then◌else◌, List, [], ◌∷◌, length, map, filter, Option, Some, None, slice_index_or}
use Rattle.std.specs.Option.{ForSome}
use Rattle.desk_units.specs.declared.numbers.Leg.{Leg}
use Rattle.desk_units.specs.declared.numbers.Plane.{Plane}
use Rattle.desk_data.specs.Situation.{Situation, legs_of, planes_of, airports_of, leg_at}
use Rattle.desk_data.specs.PlanRows.{PlanRows, row_at}
use Rattle.desk_rules.specs.Numbers.{numbers}
use Rattle.desk_rules.specs.Passengers.{is_flown}
use Rattle.near_moves.specs.MoveParts.{flier, is_movable_flown, is_restorable, family_of, legs_from}
use Rattle.near_legs.specs.declared.lists.By.{By}
use Rattle.near_legs.specs.declared.lists.By.TheVariants.{Aircraft, AirportPair}

-- ---- the leg after a leg

-- the legs from a leg on, where there is one
abbrev pub from_next : Situation → PlanRows → Option Leg → List ℕ
from_next I P None = []
from_next I P (Some leg) = legs_from I P leg.0

-- of each leg that is flown, the next one on its aircraft
pub record AreAfter (I : Situation) (P : PlanRows) (after : List (Option Leg)) : Type 0 where
  pub legs : length after ≡ legs_of I
  pub within : (x : ℕ) → ForSome (slice_index_or after x None) (λ next. next.0 < legs_of I)
  pub flown : (x : ℕ) → ForSome (slice_index_or after x None) (λ next. is_flown (row_at P next.0) ≡ true)
  pub each : (x : ℕ) → x < legs_of I → is_flown (row_at P x) ≡ true → legs_from I P x ≡ x ∷ from_next I P (slice_index_or after x None)

-- for each leg the one of the first n that has it before it, if any has
pub record IsInverse (n : ℕ) (before after : List (Option Leg)) : Type 0 where
  pub legs : length after ≡ length before
  pub found : (x : ℕ) → ForSome (slice_index_or after x None) (λ next. (next.0 < length before) × (slice_index_or before next.0 None ≡ Some (record { 0 = x })))
  pub all : (x y : ℕ) → y < n → slice_index_or before y None ≡ Some (record { 0 = x }) → slice_index_or after x None ≡ None → ⊥

-- ---- families

-- of each aircraft those of its family
pub record AreFamilies (I : Situation) (families : List (List Plane)) : Type 0 where
  pub planes : length families ≡ planes_of I
  pub each : (p : ℕ) → p < planes_of I → map (λ (plane : Plane). plane.0) (slice_index_or families p []) ≡ family_of I p

-- ---- lists of legs

-- whether it is this number
abbrev pub is_number : ℕ → Option ℕ → Bool
is_number k None = false
is_number k (Some n) = n == k

-- the number of a pair of airports, from one to the other: there are at most 500
abbrev pub pair_number : ℕ → ℕ → ℕ
pair_number from to = 500 * from + to

-- under which number leg x is listed: a movable leg under the aircraft that flies it, one that may be restored under its airports
abbrev pub place : Situation → PlanRows → By → ℕ → Option ℕ
place I P Aircraft x = if is_movable_flown I P x then Some (flier (row_at P x)) else None
place I P AirportPair x = if is_restorable I P x then Some (pair_number (leg_at I x).origin.0 (leg_at I x).dest.0) else None

-- how many numbers there are
abbrev pub count_of : Situation → By → ℕ
count_of I Aircraft = planes_of I
count_of I AirportPair = 500 * airports_of I

abbrev pub is_listed : Situation → PlanRows → By → ℕ → ℕ → Bool
is_listed I P by k x = is_number k (place I P by x)

-- under each number those of the first n legs that are listed there, by leg
pub record AreListed (n : ℕ) (I : Situation) (P : PlanRows) (by : By) (lists : List (List Leg)) : Type 0 where
  pub count : length lists ≡ count_of I by
  pub each : (k : ℕ) → k < count_of I by → map (λ (leg : Leg). leg.0) (slice_index_or lists k []) ≡ filter (is_listed I P by k) (numbers n)

-- ---- all of them

pub record Lists : Type 0 where
  -- of each leg the next one on its aircraft
  pub after : List (Option Leg)
  -- of each aircraft those of its family
  pub families : List (List Plane)
  -- of each aircraft the movable legs that it flies
  pub flown : List (List Leg)
  -- of each pair of airports the legs from the one to the other that may be restored
  pub cancelled : List (List Leg)

pub record AreLists (I : Situation) (P : PlanRows) (lists : Lists) : Type 0 where
  pub after : AreAfter I P lists.after
  pub families : AreFamilies I lists.families
  pub flown : AreListed (legs_of I) I P Aircraft lists.flown
  pub cancelled : AreListed (legs_of I) I P AirportPair lists.cancelled

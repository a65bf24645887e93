-- Rotations that are looked up once.
use Rattle.std.specs.Prelude.{◌≡◌, ℕ, ◌<◌, ◌==◌, if◌then◌else◌, Option, None, List, [], ◌∷◌, All, is_none, length, map, slice_index_or}
use Rattle.std.specs.Option.{ForSome}
use Rattle.desk_units.specs.declared.numbers.Leg.{Leg}
use Rattle.desk_data.specs.Situation.{Situation, legs_of, planes_of, reservations_of}
use Rattle.desk_data.specs.PlanRows.{PlanRows}
use Rattle.desk_rules.specs.Numbers.{numbers}
use Rattle.desk_rules.specs.Least.{least}
use Rattle.desk_model.specs.Push.{rotation}
use Rattle.near_priced.specs.Payers.{ArePayers}
use Rattle.near_priced.specs.Tables.{ArePayments}
use Rattle.near_dear.specs.Owed.{AreOwed}
use Rattle.near_dear.specs.Times.{ArePlaneTimes}
use Rattle.near_dear.specs.declared.times.PlaneTimes.{PlaneTimes}
use Rattle.near_search.specs.declared.rotations.Rotations.{Rotations}

-- the numbers of some legs
abbrev pub numbers_of : List Leg → List ℕ
numbers_of legs = map (λ (leg : Leg). leg.0) legs

-- what is told of each of the first n aircraft, to tell exchanges of its legs
pub record AreTimes (I : Situation) (P : PlanRows) (n : ℕ) (times : List (Option PlaneTimes)) : Type 0 where
  pub planes : length times ≡ n
  pub each : (p : ℕ) → p < n → ForSome (slice_index_or times p None) (ArePlaneTimes I P p)

-- of each aircraft its legs in plan P, in their order; who pays and how much; when each aircraft is done; what those on each leg come to cost, no longer carried; and whether the plan is feasible
pub record AreRotations (I : Situation) (P : PlanRows) (rotations : Rotations) : Type 0 where
  pub feasible : rotations.feasible ≡ is_none (least I P)
  pub planes : length rotations.legs.items ≡ planes_of I
  pub each : map (λ legs. numbers_of legs.items) rotations.legs.items ≡ map (rotation I P) (numbers (planes_of I))
  pub within : All (λ legs. All (λ leg. leg.0 < legs_of I) legs.items) rotations.legs.items
  pub payers : ArePayers I P rotations.payers
  pub payments : ArePayments I P rotations.payments
  pub times : AreTimes I P (planes_of I) rotations.times.items
  pub owed : AreOwed I P rotations.owed.items (reservations_of I)

-- the legs from leg x on
abbrev pub from_leg : ℕ → List Leg → List Leg
from_leg x [] = []
from_leg x (leg ∷ legs) = if leg.0 == x then leg ∷ legs else from_leg x legs

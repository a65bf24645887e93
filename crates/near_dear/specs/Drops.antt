-- Moves that cancel legs of an aircraft, and those of them that are known to be dear.
--
-- P is the plan before the move.
use Rattle.std.specs.Prelude.{ℕ, ◌+◌, ◌≤◌, Bool, false, ◌&&◌, not, nat_lt, None, List, [], ◌∷◌, ◌++◌, map, sum_by, count_by}
use Rattle.std.specs.List.{Contains}
use Rattle.desk_data.specs.declared.info.PositionInfo.{PositionInfo}
use Rattle.desk_data.specs.Situation.{Situation, plane_at}
use Rattle.desk_data.specs.PlanRows.{PlanRows, row_at}
use Rattle.plan_moves.specs.declared.moves.Step.{Step}
use Rattle.plan_moves.specs.declared.moves.Step.TheVariants.{Set, Push, Swap, Rebook, Tidy, Refill}
use Rattle.desk_rules.specs.Cost.{operating, is_wanted, at_hand}
use Rattle.desk_rules.specs.Maintenance.{flies}
use Rattle.desk_rules.specs.Passengers.{is_flown}
use Rattle.desk_rules.specs.Rows.{is_row}
use Rattle.desk_model.specs.Push.{rotation}
use Rattle.near_moves.specs.MoveParts.{plane}
use Rattle.near_moves.specs.LegMoves.{cancelling}
use Rattle.near_priced.specs.Unpaid.{saved_by_ending}
use Rattle.near_priced.specs.Priced.{paid_on}
use Rattle.near_dear.specs.Owed.{owed_on}

-- some legs are cancelled, all movable legs of aircraft p are pushed, and then a Tidy. With a run of legs it is a move of N3
abbrev pub dropping_legs : PlanRows → ℕ → List ℕ → List Step
dropping_legs P p legs = map (cancelling P) legs ++ Push (plane p) None ∷ Tidy ∷ []

-- whether a step cancels a leg that aircraft p flies, by the row that it has
abbrev pub cancels : PlanRows → ℕ → Step → Bool
cancels P p (Set leg was new) = is_row (row_at P leg.0) was && (flies P p leg.0 && not (is_flown new))
cancels P p (Push plane after) = false
cancels P p (Swap first second at) = false
cancels P p (Rebook res path to count) = false
cancels P p Tidy = false
cancels P p (Refill leg) = false

-- the legs that some steps set
abbrev pub legs_set : List Step → List ℕ
legs_set [] = []
legs_set (Set leg was new ∷ steps) = leg.0 ∷ legs_set steps
legs_set (Push plane after ∷ steps) = legs_set steps
legs_set (Swap first second at ∷ steps) = legs_set steps
legs_set (Rebook res path to count ∷ steps) = legs_set steps
legs_set (Tidy ∷ steps) = legs_set steps
legs_set (Refill leg ∷ steps) = legs_set steps

-- what it costs to fly the leg that a step sets, as it is flown
abbrev pub flying_of : Situation → PlanRows → Step → ℕ
flying_of I P (Set leg was new) = operating I P leg.0
flying_of I P (Push plane after) = 0
flying_of I P (Swap first second at) = 0
flying_of I P (Rebook res path to count) = 0
flying_of I P Tidy = 0
flying_of I P (Refill leg) = 0

-- whether a position wants aircraft like aircraft p, and lacks one; and how many do
abbrev pub lacks_one : Situation → PlanRows → ℕ → PositionInfo → Bool
lacks_one I P p position = is_wanted position (plane_at I p) && nat_lt (at_hand I P position) position.count

abbrev pub places_for : Situation → PlanRows → ℕ → ℕ
places_for I P p = count_by (lacks_one I P p) I.parts.positions

-- those on one of the legs come to cost, no longer carried, at least what flying the legs costs, what the aircraft may save by ending elsewhere, and what those pay now who are on legs of the aircraft
pub record IsDearDrop (I : Situation) (P : PlanRows) (p : ℕ) (legs : List ℕ) : Type 0 where
  pub leg : ℕ
  pub has : Contains legs leg
  pub dear : sum_by (operating I P) legs + saved_by_ending I P p p + sum_by (paid_on I P) (rotation I P p) ≤ owed_on I P leg

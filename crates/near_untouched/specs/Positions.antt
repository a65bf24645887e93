-- Positions that have other aircraft at hand in a later plan.
--
-- P is the earlier plan, and Q the later one.
use Rattle.std.specs.Prelude.{◌≡◌, ℕ, ◌<◌, Bool, true, false, ◌⊎◌, List, All, Option, None, slice_index_or}
use Rattle.std.specs.List.{Contains}
use Rattle.desk_units.specs.declared.numbers.Airport.{Airport}
use Rattle.desk_units.specs.declared.numbers.Plane.{Plane}
use Rattle.desk_data.specs.declared.info.PositionInfo.{PositionInfo}
use Rattle.desk_data.specs.Situation.{Situation, planes_of, plane_at}
use Rattle.desk_data.specs.PlanRows.{PlanRows}
use Rattle.desk_rules.specs.Cost.{at_hand, is_wanted}
use Rattle.near_moves.specs.MoveParts.{plane}
use Rattle.near_untouched.specs.Marks.{is_marked}

-- those of the first n aircraft are listed that end elsewhere, by where each ended and where it ends
pub record AreElsewhere (n : ℕ) (was now : List (Option Airport)) (planes : List Plane) : Type 0 where
  pub listed : (p : ℕ) → p < n → (slice_index_or was p None ≡ slice_index_or now p None) ⊎ Contains planes (plane p)
  pub within : All (λ q. q.0 < n) planes

-- the aircraft that a position wants are marked
abbrev pub AreWantedMarked : Situation → List Bool → PositionInfo → Type 0
AreWantedMarked I touched position = (p : ℕ) → p < planes_of I → is_wanted position (plane_at I p) ≡ true → is_marked touched p ≡ true

-- a position has as many aircraft at hand in both plans, or those that it wants are marked
abbrev pub IsPositionTold : Situation → PlanRows → PlanRows → List Bool → PositionInfo → Type 0
IsPositionTold I P Q touched position = (at_hand I P position ≡ at_hand I Q position) ⊎ AreWantedMarked I touched position

-- each position that wants aircraft p has as many at hand in both plans
abbrev pub HasSameHands : Situation → PlanRows → PlanRows → ℕ → Type 0
HasSameHands I P Q p = All (λ position. (at_hand I P position ≡ at_hand I Q position) ⊎ (is_wanted position (plane_at I p) ≡ false)) I.parts.positions

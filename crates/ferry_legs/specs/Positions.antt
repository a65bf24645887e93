-- How many of the wanted aircraft are at hand for each position, by airport.
use Rattle.std.specs.Prelude.{◌≡◌, ℕ, ◌+◌, ◌-◌, ◌<◌, ◌==◌, Bool, ◌&&◌, nat_lt, nat_le, if◌then◌else◌, List, [], length, map, filter, count_by, slice_index_or}
use Rattle.desk_data.specs.declared.info.PlaneInfo.{PlaneInfo}
use Rattle.desk_data.specs.declared.info.PositionInfo.{PositionInfo}
use Rattle.desk_data.specs.Situation.{Situation, airports_of, plane_at}
use Rattle.desk_data.specs.PlanRows.{PlanRows}
use Rattle.desk_rules.specs.Numbers.{numbers}
use Rattle.desk_rules.specs.Cost.{is_wanted, ends_at}
use Rattle.ferry_legs.specs.declared.wanted.Wanted.{Wanted}

-- those of some positions that are at an airport, in order
abbrev pub positions_at : List PositionInfo → ℕ → List PositionInfo
positions_at positions airport = filter (λ position. position.airport.0 == airport) positions

-- a position with so many aircraft at hand
abbrev pub with_hand : (PositionInfo → ℕ) → PositionInfo → Wanted
with_hand hand position = record { position = position; at_hand = hand position }

-- by airport those of some positions that are there, with so many aircraft at hand for each
pub record ArePositionsOf (positions : List PositionInfo) (count : ℕ) (hand : PositionInfo → ℕ) (airports : List (List Wanted)) : Type 0 where
  pub all : length airports ≡ count
  pub each : (a : ℕ) → a < count → slice_index_or airports a [] ≡ map (with_hand hand) (positions_at positions a)

abbrev pub ArePositions : Situation → (PositionInfo → ℕ) → List (List Wanted) → Type 0
ArePositions I hand airports = ArePositionsOf I.parts.positions (airports_of I) hand airports

-- how many of the first n aircraft are wanted at a position, and end there in a plan
abbrev pub hand_of_first : ℕ → Situation → PlanRows → PositionInfo → ℕ
hand_of_first n I P position = length (filter (λ p. is_wanted position (plane_at I p) && ends_at I P p position.airport.0) (numbers n))

-- whether an aircraft is missing where it is wanted: at a position that has fewer at hand than it should have
abbrev pub is_gained : PlaneInfo → Wanted → Bool
is_gained plane w = is_wanted w.position plane && nat_lt w.at_hand w.position.count

-- whether an aircraft will be missing where it is wanted: at a position that has no more at hand than it should have
abbrev pub is_lost : PlaneInfo → Wanted → Bool
is_lost plane w = is_wanted w.position plane && nat_le w.at_hand w.position.count

-- how many aircraft less are missing as an aircraft comes to an airport with these positions, and how many more as it leaves
abbrev pub gained : PlaneInfo → List Wanted → ℕ
gained plane rows = count_by (is_gained plane) rows

abbrev pub lost : PlaneInfo → List Wanted → ℕ
lost plane rows = count_by (is_lost plane) rows

-- a position as an aircraft comes, and as it leaves
abbrev pub with_one_more : PlaneInfo → Wanted → Wanted
with_one_more plane w = if is_wanted w.position plane then record w { at_hand = w.at_hand + 1 } else w

abbrev pub with_one_less : PlaneInfo → Wanted → Wanted
with_one_less plane w = if is_wanted w.position plane then record w { at_hand = w.at_hand - 1 } else w

-- What is kept of a plan with added legs, so that what one more leg changes of the cost is known.
--
-- The letters are those of added_legs: I the day, P a plan, A a list of added legs, p the number of an aircraft, d that of an airport.
use Rattle.std.specs.Prelude.{◌≡◌, ℕ, ◌<◌, ◌≤◌, List, length, slice_index_or}
use Rattle.desk_units.specs.declared.numbers.Airport.{Airport}
use Rattle.desk_units.specs.declared.tariff.Term.TheVariants as term
use Rattle.tariff_prices.specs.Prices.{position_price}
use Rattle.desk_data.specs.declared.info.PositionInfo.{PositionInfo}
use Rattle.desk_data.specs.Situation.{Situation, planes_of, airports_of, plane_at}
use Rattle.desk_data.specs.PlanRows.{PlanRows}
use Rattle.desk_rules.specs.Cost.{rows_of, weight, by_hour, by_item, at_hand}
use Rattle.added_legs.specs.declared.added.Added.{Added}
use Rattle.added_legs.specs.Merged.{plane_end, merged_day, merged_plan}
use Rattle.added_legs.specs.Added.{cost_added}
use Rattle.added_legs.specs.Ferried.{ready}
use Rattle.ferry_legs.specs.declared.wanted.Wanted.{Wanted}
use Rattle.ferry_legs.specs.Positions.{ArePositions}

-- where each aircraft ends, by airport the positions with the aircraft at hand for each, and the cost
pub record PriceRows : Type 0 where
  pub ends : List Airport
  pub airports : List (List Wanted)
  pub cost : ℕ

-- what is read where a list of airports has ended
abbrev pub nowhere : Airport
nowhere = record { 0 = 0 }

-- where each aircraft ends in the plan
pub record AreEnds (I : Situation) (P : PlanRows) (ends : List Airport) : Type 0 where
  pub planes : length ends ≡ planes_of I
  pub each : (p : ℕ) → p < planes_of I → slice_index_or ends p nowhere ≡ plane_end I P p
  pub within : (p : ℕ) → p < planes_of I → (slice_index_or ends p nowhere).0 < airports_of I

-- how many of the aircraft that a position wants end there with added legs
abbrev pub at_hand_with : Situation → PlanRows → List Added → PositionInfo → ℕ
at_hand_with I P A = at_hand (merged_day I P A) (merged_plan I P A)

-- what is kept is that of a plan with a list of added legs
pub record IsPricesOf (I : Situation) (P : PlanRows) (A : List Added) (prices : PriceRows) : Type 0 where
  pub ends : AreEnds I P prices.ends
  pub positions : ArePositions I (at_hand_with I P A) prices.airports
  pub cost : prices.cost ≡ cost_added I P A

-- an added leg of aircraft p may depart at a moment: the aircraft is ready, and the window has not ended
pub record IsInTime (I : Situation) (P : PlanRows) (p at : ℕ) : Type 0 where
  pub after : ready I P p ≤ at
  pub before : at < I.parts.to.0

-- what so many minutes of aircraft p cost, and what so many missing aircraft cost
abbrev pub flying_cost : Situation → ℕ → ℕ → ℕ
flying_cost I p minutes = by_hour (weight I term.Operating) (plane_at I p).hourly.0 minutes

abbrev pub missing_cost : Situation → ℕ → ℕ
missing_cost I aircraft = by_item (weight I term.Position) (position_price (rows_of I)) aircraft

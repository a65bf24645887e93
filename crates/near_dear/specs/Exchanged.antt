-- What flying and the positions cost once two aircraft have exchanged their legs from a moment on, told by the plan before it.
--
-- P is the plan before the move, p and q are the two aircraft, and `at` is the moment.
use Rattle.std.specs.Prelude.{ℕ, ◌+◌, ◌-◌, ◌&&◌, not, nat_lt, ◌==◌, if◌then◌else◌, List, filter, sum_by}
use Rattle.desk_units.specs.declared.tariff.Term.TheVariants as term
use Rattle.tariff_prices.specs.Prices.{position_price}
use Rattle.desk_data.specs.declared.info.PositionInfo.{PositionInfo}
use Rattle.desk_data.specs.Situation.{Situation, leg_at, plane_at}
use Rattle.desk_data.specs.PlanRows.{PlanRows}
use Rattle.desk_rules.specs.Rotations.{dep}
use Rattle.desk_rules.specs.Cost.{weight, rows_of, by_hour, by_item, is_wanted, at_hand}
use Rattle.desk_model.specs.Push.{rotation}
use Rattle.near_moves.specs.Chains.{stand, stand_before}

-- ---- flying

-- the legs of aircraft p that depart at a moment or later
abbrev pub tail : Situation → PlanRows → ℕ → ℕ → List ℕ
tail I P p at = filter (λ x. not (nat_lt (dep P x) at)) (rotation I P p)

-- how many minutes some legs take
abbrev pub minutes : Situation → List ℕ → ℕ
minutes I legs = sum_by (λ x. (leg_at I x).block) legs

-- what it costs that aircraft p flies some legs
abbrev pub cost_by : Situation → ℕ → List ℕ → ℕ
cost_by I p legs = by_hour (weight I term.Operating) (plane_at I p).hourly.0 (minutes I legs)

-- what the legs of both from the moment on cost where each flies its own, and where each flies those of the other
abbrev pub own_cost : Situation → PlanRows → ℕ → ℕ → ℕ → ℕ
own_cost I P p q at = cost_by I p (tail I P p at) + cost_by I q (tail I P q at)

abbrev pub exchanged_cost : Situation → PlanRows → ℕ → ℕ → ℕ → ℕ
exchanged_cost I P p q at = cost_by I q (tail I P p at) + cost_by I p (tail I P q at)

-- ---- positions

-- where aircraft p stands at the end, if C5 is met once it has exchanged legs with q: where q stood, if both stand at one airport at the moment, and else where it stood itself
abbrev pub stand_then : Situation → PlanRows → ℕ → ℕ → ℕ → ℕ
stand_then I P p q at = if stand_before I P p at == stand_before I P q at then stand I P q else stand I P p

-- 1 where aircraft p is of the kind that a position wants and stands at its airport, else 0
abbrev pub serves : Situation → ℕ → ℕ → PositionInfo → ℕ
serves I p airport position = if is_wanted position (plane_at I p) && (airport == position.airport.0) then 1 else 0

-- how many aircraft are at hand for a position then: as many as before, with the two where they stand then and not where they stood
abbrev pub hand_then : Situation → PlanRows → ℕ → ℕ → ℕ → PositionInfo → ℕ
hand_then I P p q at position =
    at_hand I P position
    + (serves I p (stand_then I P p q at) position + serves I q (stand_then I P q p at) position)
    - (serves I p (stand I P p) position + serves I q (stand I P q) position)

-- what the positions cost then
abbrev pub positions_then : Situation → PlanRows → ℕ → ℕ → ℕ → ℕ
positions_then I P p q at =
    sum_by (λ position. by_item (weight I term.Position) (position_price (rows_of I)) (position.count - hand_then I P p q at position)) I.parts.positions

-- Where two aircraft stand, and how many aircraft the positions lack.
use Rattle.std.specs.Prelude.{◌≡◌, ℕ, ◌-◌, sum_by}
use Rattle.desk_data.specs.Situation.{Situation}
use Rattle.desk_data.specs.PlanRows.{PlanRows}
use Rattle.desk_rules.specs.Cost.{at_hand}
use Rattle.near_moves.specs.Chains.{stand, stand_before}
use Rattle.near_dear.specs.Exchanged.{hand_then}
use Rattle.near_dear.specs.declared.positions.Stands.{Stands}

-- where aircraft p and q stand at a moment, and at the end
pub record AreStands (I : Situation) (P : PlanRows) (p q at : ℕ) (stands : Stands) : Type 0 where
  pub before : stands.before.0 ≡ stand_before I P p at
  pub other_before : stands.other_before.0 ≡ stand_before I P q at
  pub end : stands.end.0 ≡ stand I P p
  pub other_end : stands.other_end.0 ≡ stand I P q

-- how many aircraft all positions lack, now and once the two have exchanged legs
abbrev pub gaps_now : Situation → PlanRows → ℕ
gaps_now I P = sum_by (λ position. position.count - at_hand I P position) I.parts.positions

abbrev pub gaps_then : Situation → PlanRows → ℕ → ℕ → ℕ → ℕ
gaps_then I P p q at = sum_by (λ position. position.count - hand_then I P p q at position) I.parts.positions

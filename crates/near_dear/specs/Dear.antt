-- Exchanges that are known to be dear, told by the plan before them.
use Rattle.std.specs.Prelude.{◌≡◌, ◌≢◌, ℕ, ◌+◌, ◌≤◌, false, sum_by}
use Rattle.desk_data.specs.Situation.{Situation, plane_at}
use Rattle.desk_data.specs.PlanRows.{PlanRows}
use Rattle.desk_rules.specs.Cost.{position_cost}
use Rattle.near_priced.specs.Priced.{paid_on}
use Rattle.near_dear.specs.Exchanged.{own_cost, exchanged_cost, positions_then}
use Rattle.near_dear.specs.Calm.{both, AreDoneInTime}

-- aircraft p and q, two and neither of them surface transport, are done before the window ends, whatever they exchange. Once they have exchanged legs from a moment on, flying and the positions cost at least as much more as those pay now who are on their legs
pub record IsDearExchange (I : Situation) (P : PlanRows) (p q at : ℕ) : Type 0 where
  pub other : p ≢ q
  pub air : (plane_at I p).surface ≡ false
  pub other_air : (plane_at I q).surface ≡ false
  pub from : ℕ
  pub done : AreDoneInTime I P p q from
  pub dear : own_cost I P p q at + position_cost I P + sum_by (paid_on I P) (both I P p q) ≤ exchanged_cost I P p q at + positions_then I P p q at

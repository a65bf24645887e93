use Rattle.std.proofs.Common.{◌≡◌, ℕ, suc, ◌-◌, ◌<◌, true, get_or}
use Rattle.desk_data.specs.PlanRows.{row_at}
use Rattle.desk_rules.specs.Rotations.{precedes}
use Rattle.near_draft.specs.Legs.{numbers_of}
use Rattle.near_draft.proofs.legs.are_in_order.Given as goal

abbrev pub invariant-loop-k : goal.invariant-loop-k
invariant-loop-k g l = record {
  row : l.row ≡ row_at (g.P.ReadPlan.plan_of l.plan) (get_or (numbers_of l.legs) (l.k - 1) 0);
  order : (j : ℕ) → suc j < l.k → precedes (g.P.ReadPlan.plan_of l.plan) (get_or (numbers_of l.legs) j 0) (get_or (numbers_of l.legs) (suc j) 0) ≡ true;
}

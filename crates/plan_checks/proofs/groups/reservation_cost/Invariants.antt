use Rattle.std.proofs.Common.{◌≡◌, take}
use Rattle.std.specs.Prelude.{sum_by}
use Rattle.desk_data.specs.PlanRows.{groups_at}
use Rattle.plan_checks.specs.Amounts.{group_cost}
use Rattle.plan_checks.proofs.groups.reservation_cost.Given as goal

-- what the groups so far cost
abbrev pub invariant-loop-group : goal.invariant-loop-group
invariant-loop-group g l = l.total.0 ≡ sum_by (group_cost l.inst (g.P.ReadPlan.plan_of l.plan) l.fn.res.0) (take l.group-index (groups_at (g.P.ReadPlan.plan_of l.plan) l.fn.res.0))

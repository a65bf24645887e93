use Rattle.std.proofs.Common.{◌≡◌, take}
use Rattle.std.specs.Prelude.{sum_by}
use Rattle.desk_data.specs.PlanRows.{groups_at}
use Rattle.page_parts.specs.Amounts.{amount}
use Rattle.page_parts.proofs.passenger_terms.reservation_term.Given as goal

-- the term of the groups so far
abbrev pub invariant-loop-group : goal.invariant-loop-group
invariant-loop-group g l = l.total.0 ≡ sum_by (amount l.inst (g.P.ReadPlan.plan_of l.plan) l.fn.term l.fn.res.0) (take l.group-index (groups_at (g.P.ReadPlan.plan_of l.plan) l.fn.res.0))

use Rattle.std.proofs.Common.{◌≡◌}
use Rattle.std.specs.Prelude.{sum_by}
use Rattle.desk_data.specs.PlanRows.{groups_at}
use Rattle.desk_rules.specs.Numbers.{numbers}
use Rattle.page_parts.specs.Amounts.{amount}
use Rattle.page_parts.proofs.passenger_terms.passenger_term.Given as goal

-- the term of the reservations so far
abbrev pub invariant-loop-r : goal.invariant-loop-r
invariant-loop-r g l = l.total.0 ≡ sum_by (λ r. sum_by (amount l.inst (g.P.ReadPlan.plan_of l.plan) l.fn.term r) (groups_at (g.P.ReadPlan.plan_of l.plan) r)) (numbers l.r)

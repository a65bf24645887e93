use Rattle.std.proofs.Common.{◌≡◌}
use Rattle.std.specs.Prelude.{sum_by}
use Rattle.desk_rules.specs.Numbers.{numbers}
use Rattle.plan_checks.specs.Amounts.{reservation_cost}
use Rattle.plan_checks.proofs.groups.passengers_cost.Given as goal

-- what the reservations so far cost
abbrev pub invariant-loop-r : goal.invariant-loop-r
invariant-loop-r g l = l.total.0 ≡ sum_by (reservation_cost l.inst (g.P.ReadPlan.plan_of l.plan)) (numbers l.r)

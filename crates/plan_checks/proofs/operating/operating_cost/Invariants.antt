use Rattle.std.proofs.Common.{◌≡◌}
use Rattle.std.specs.Prelude.{sum_by}
use Rattle.desk_rules.specs.Numbers.{numbers}
use Rattle.desk_rules.specs.Cost.{operating}
use Rattle.plan_checks.proofs.operating.operating_cost.Given as goal

-- what the legs so far cost
abbrev pub invariant-loop-x : goal.invariant-loop-x
invariant-loop-x g l = l.total.0 ≡ sum_by (operating l.inst (g.P.ReadPlan.plan_of l.plan)) (numbers l.x)

use Rattle.std.proofs.Common.{◌≡◌, take}
use Rattle.std.specs.Prelude.{sum_by}
use Rattle.desk_rules.specs.Cost.{downgrade_on}
use Rattle.plan_checks.proofs.downgrade.downgrade_cost.Given as goal

-- what the legs so far cost
abbrev pub invariant-loop-leg : goal.invariant-loop-leg
invariant-loop-leg l = l.total.0 ≡ sum_by (downgrade_on l.inst l.res.0 l.count) (take l.leg-index l.path)

use Rattle.std.proofs.Common.{arith}
use Rattle.plan_checks.specs.Counted.{group_on}
use Rattle.page_parts.proofs.TermLaws.{group_is}
use Rattle.page_parts.proofs.amounts.group_legal.Goals as goal

pub overflow_sub-result : goal.overflow_sub-result
overflow_sub-result g c =
    omega (arith, group_is c.args.inst.now (g.P.ReadPlan.plan_of c.args.plan.now) c.args.res.0 (group_on c.args.path.now c.args.count), c.group_cost-all.ensures, c.group_delay-delay.ensures)

pub overflow_sub-result-2 : goal.overflow_sub-result-2
overflow_sub-result-2 g c =
    omega (arith, group_is c.args.inst.now (g.P.ReadPlan.plan_of c.args.plan.now) c.args.res.0 (group_on c.args.path.now c.args.count), c.group_cost-all.ensures, c.group_delay-delay.ensures, c.group_cancellation-cancellation.ensures)

pub overflow_sub-result-3 : goal.overflow_sub-result-3
overflow_sub-result-3 g c =
    omega (arith, group_is c.args.inst.now (g.P.ReadPlan.plan_of c.args.plan.now) c.args.res.0 (group_on c.args.path.now c.args.count), c.group_cost-all.ensures, c.group_delay-delay.ensures, c.group_cancellation-cancellation.ensures, c.group_downgrade-downgrade.ensures)

pub returns : goal.returns
returns g c =
    omega (arith, group_is c.args.inst.now (g.P.ReadPlan.plan_of c.args.plan.now) c.args.res.0 (group_on c.args.path.now c.args.count), c.group_cost-all.ensures, c.group_delay-delay.ensures, c.group_cancellation-cancellation.ensures, c.group_downgrade-downgrade.ensures)

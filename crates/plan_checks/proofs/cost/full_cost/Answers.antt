use Rattle.std.proofs.Common.{◌≡◌, ap, arith}
use Rattle.desk_rules.specs.Cost.{cost, operating_cost, position_cost, grains}
use Rattle.plan_checks.proofs.cost.full_cost.Goals as goal

pub returns-clause-cost : goal.returns-clause-cost
unfolding cost
returns-clause-cost g c =
    let first : c.operating_cost.result.0 ≡ operating_cost c.args.inst.now (g.P.ReadPlan.plan_of c.args.plan.now) = ap (λ g. g.0) c.operating_cost.ensures.cost in
    let last : c.position_cost.result.0 ≡ position_cost c.args.inst.now (g.P.ReadPlan.plan_of c.args.plan.now) = ap (λ g. g.0) c.position_cost.ensures.cost in
    let sum : c.plus-2.result.0 ≡ cost c.args.inst.now (g.P.ReadPlan.plan_of c.args.plan.now) = omega (arith, first, c.passengers_cost.ensures.cost, last, c.plus.ensures, c.plus-2.ensures) in
    ap grains sum

use Rattle.std.proofs.Common.{ap, ◌∙◌}
use Rattle.desk_units.specs.declared.money.Grains.{Grains}
use Rattle.plan_checks.specs.Counted.{group_on}
use Rattle.plan_checks.specs.Amounts.{path_cost}
use Rattle.plan_checks.proofs.EndLaws.{ended_is}
use Rattle.page_parts.proofs.amounts.group_cost.Goals as goal

pub returns : goal.returns
returns g c =
    let group = group_on c.args.path.now c.args.count in
    ap (λ (all : Grains). all.0) c.path_cost.ensures
    ∙ ap (path_cost c.args.inst.now c.args.res.0 group) c.path_end.ensures.end
    ∙ ended_is c.args.inst.now (g.P.ReadPlan.plan_of c.args.plan.now) c.args.res.0 group

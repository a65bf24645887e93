use Rattle.std.proofs.Common.{ap, ◌∙◌}
use Rattle.desk_rules.specs.Cost.{grains}
use Rattle.plan_checks.specs.Amounts.{path_cost}
use Rattle.plan_checks.specs.Counted.{group_on}
use Rattle.plan_checks.proofs.EndLaws.{ended_is}
use Rattle.near_priced.proofs.pays.group_cost.Goals as goal

pub returns : goal.returns
returns c =
    let I = c.args.inst.now in
    let P = c.args.plan.now in
    let r = c.args.res.0 in
    let group = group_on c.args.path.now c.args.count in
    c.path_cost.ensures ∙ ap (λ end. grains (path_cost I r group end)) c.path_end.ensures.end ∙ ap grains (ended_is I P r group)

use Rattle.std.proofs.Common.{◌≡◌, ap, arith}
use Rattle.desk_rules.specs.Cost.{downgrade, legal_uncarried}
use Rattle.plan_checks.specs.Counted.{group_on}
use Rattle.plan_checks.specs.Amounts.{cancellation_uncarried}
use Rattle.plan_checks.proofs.EndLaws.{downgrades-le, uncarried-le}
use Rattle.plan_checks.proofs.ended.cost_by_end.Goals as goal

pub plus-requires : goal.plus-requires
plus-requires c =
    let I = c.args.inst.now in
    let group = group_on c.args.path.now c.args.count in
    let first : c.downgrade_cost-downgrades.result.0 ≡ downgrade I c.args.res.0 group = ap (λ g. g.0) c.downgrade_cost-downgrades.ensures in
    omega (arith, first, downgrades-le I c.args.res.0 group c.parts-rows.ensures.valid c.requires.group, c.arriving_cost.ensures.limit)

pub plus-requires-else-is_carried : goal.plus-requires-else-is_carried
plus-requires-else-is_carried c =
    let I = c.args.inst.now in
    let r = c.args.res.0 in
    let first : c.cancellation_cost-cancellation.result.0 ≡ cancellation_uncarried I r c.args.count = ap (λ g. g.0) c.cancellation_cost-cancellation.ensures in
    let second : c.uncarried_cost.result.0 ≡ legal_uncarried I r c.args.count = ap (λ g. g.0) c.uncarried_cost.ensures in
    omega (arith, first, second, uncarried-le I r c.args.count c.parts-rows.ensures.valid c.requires.res c.requires.group.few)

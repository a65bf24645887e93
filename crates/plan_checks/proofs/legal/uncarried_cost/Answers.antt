use Rattle.std.proofs.Common.{arith}
use Rattle.desk_rules.proofs.CostLaws.{by_item-le}
use Rattle.plan_checks.proofs.legal.uncarried_cost.Goals as goal

pub plus-requires-2 : goal.plus-requires-2
plus-requires-2 c =
    let weight = c.args.weight.0 in
    let count = c.from-count.result in
    let care = c.uncarried_care-care.result.0 in
    let compensation = c.uncarried_compensation-compensation.result.0 in
    omega (
      arith,
      by_item-le weight c.res.result.now.price.0 count c.requires.weight.limit c.res.ensures.ranges.price,
      by_item-le weight care count c.requires.weight.limit c.uncarried_care-care.ensures.limit,
      by_item-le weight compensation count c.requires.weight.limit c.uncarried_compensation-compensation.ensures.limit,
    )

use Rattle.std.proofs.Common.{arith}
use Rattle.near_dear.proofs.AtLaws.{tail-is, cost-is}
use Rattle.near_dear.proofs.flying.tail_costs.Goals as goal

pub returns-clause-own : goal.returns-clause-own
returns-clause-own c =
    let I = c.args.inst.now in
    let P = c.args.plan.now in
    let p = c.args.planes.0.0 in
    let q = c.args.planes.1.0 in
    let at = c.args.at.0 in
    let first = tail-is I P p at c.tail_minutes-first.result c.args.legs.now c.requires.legs c.tail_minutes-first.ensures.is in
    let second = tail-is I P q at c.tail_minutes-second.result c.args.others.now c.requires.others c.tail_minutes-second.ensures.is in
    let one = cost-is I P p p at c.tail_minutes-first.result c.minutes_cost.result first c.minutes_cost.ensures.is in
    let two = cost-is I P q q at c.tail_minutes-second.result c.minutes_cost-2.result second c.minutes_cost-2.ensures.is in
    omega (arith, one, two)

pub returns-clause-exchanged : goal.returns-clause-exchanged
returns-clause-exchanged c =
    let I = c.args.inst.now in
    let P = c.args.plan.now in
    let p = c.args.planes.0.0 in
    let q = c.args.planes.1.0 in
    let at = c.args.at.0 in
    let first = tail-is I P p at c.tail_minutes-first.result c.args.legs.now c.requires.legs c.tail_minutes-first.ensures.is in
    let second = tail-is I P q at c.tail_minutes-second.result c.args.others.now c.requires.others c.tail_minutes-second.ensures.is in
    let one = cost-is I P q p at c.tail_minutes-first.result c.minutes_cost-3.result first c.minutes_cost-3.ensures.is in
    let two = cost-is I P p q at c.tail_minutes-second.result c.minutes_cost-4.result second c.minutes_cost-4.ensures.is in
    omega (arith, one, two)

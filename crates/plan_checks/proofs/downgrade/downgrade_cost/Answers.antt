use Rattle.std.proofs.Common.{◌≡◌, ◌<◌, length, get_or, ap, arith}
use Rattle.std.proofs.Math.Nat.{mul-le-mul_left}
use Rattle.std.proofs.lemmas.List.Sums.{sum_by_more_le}
use Rattle.desk_units.specs.declared.numbers.Leg.{Leg}
use Rattle.desk_units.specs.declared.numbers.Cabin.{Cabin}
use Rattle.desk_units.specs.declared.numbers.Cabin.TheVariants as cabin
use Rattle.desk_rules.specs.Cost.{downgrade_on}
use Rattle.desk_rules.proofs.CostLaws.{downgrade_most, downgrade-le}
use Rattle.plan_checks.specs.Counted.{group_on}
use Rattle.plan_checks.proofs.downgrade.downgrade_cost.Goals as goal

pub plus-total-requires : goal.plus-total-requires
plus-total-requires c =
    let I = c.args.inst.now in
    let r = c.args.res.0 in
    let group = group_on c.args.path.now c.args.count in
    let i = c.loop-leg.leg-index in
    let none : Leg × Cabin = (record { 0 = 0 }, cabin.F) in
    let lt : i < length group.path = c.loop-leg-test.true in
    let one : c.leg_cost.result.0 ≡ downgrade_on I r group.count (get_or group.path i none) = ap (λ g. g.0) c.leg_cost.ensures in
    omega (arith, sum_by_more_le (downgrade_on I r group.count) group.path i none lt, downgrade-le I c.parts-rows.ensures.valid r group c.requires.group.short, mul-le-mul_left downgrade_most c.requires.group.few, one, c.loop-leg.invariant)

use Rattle.std.proofs.Common.{◌≡◌, ap, arith}
use Rattle.desk_rules.specs.Cost.{legal_late}
use Rattle.plan_checks.specs.Amounts.{delay_late}
use Rattle.plan_checks.proofs.EndLaws.{delay_late-le, legal_late-le}
use Rattle.plan_checks.proofs.ended.arriving_cost.Goals as goal

pub plus-requires : goal.plus-requires
plus-requires c =
    let I = c.args.inst.now in
    let r = c.args.res.0 in
    let minutes = c.minutes_late-minutes.result in
    let first : c.delay_cost-delay.result.0 ≡ delay_late I r minutes c.args.count = ap (λ g. g.0) c.delay_cost-delay.ensures in
    let second : c.late_cost.result.0 ≡ legal_late I r minutes c.args.count = ap (λ g. g.0) c.late_cost.ensures in
    let soon = c.minutes_late-minutes.ensures.limit in
    omega (arith, first, second, delay_late-le I r minutes c.args.count c.parts-rows.ensures.valid (omega (arith, soon)) c.requires.count, legal_late-le I r minutes c.args.count c.parts-rows.ensures.valid c.requires.count)

pub returns-clause-limit : goal.returns-clause-limit
returns-clause-limit c =
    let I = c.args.inst.now in
    let r = c.args.res.0 in
    let minutes = c.minutes_late-minutes.result in
    let first : c.delay_cost-delay.result.0 ≡ delay_late I r minutes c.args.count = ap (λ g. g.0) c.delay_cost-delay.ensures in
    let second : c.late_cost.result.0 ≡ legal_late I r minutes c.args.count = ap (λ g. g.0) c.late_cost.ensures in
    let soon = c.minutes_late-minutes.ensures.limit in
    omega (arith, first, second, c.plus.ensures, delay_late-le I r minutes c.args.count c.parts-rows.ensures.valid (omega (arith, soon)) c.requires.count, legal_late-le I r minutes c.args.count c.parts-rows.ensures.valid c.requires.count)

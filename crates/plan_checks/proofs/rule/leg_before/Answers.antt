use Rattle.std.proofs.Common.{◌<◌, length, get_or, arith}
use Rattle.std.specs.Prelude.{None}
use Rattle.plan_reads.proofs.AfterLegLaws.{before-within, with_departure-before}
use Rattle.plan_checks.proofs.rule.leg_before.Goals as goal

pub with_departure-requires : goal.with_departure-requires
with_departure-requires c =
    let rows = c.args.plan.now.rows in
    let x = c.args.leg.0 in
    let lt : x < length rows = omega (arith, c.requires.plan.legs, c.requires.leg) in
    before-within rows (length rows) x (get_or c.args.before.now x None) (c.requires.before.each x lt)

pub returns-clause-is_before : goal.returns-clause-is_before
returns-clause-is_before c =
    with_departure-before c.args.inst.now c.args.plan.now c.args.leg.0 c.args.before.now c.with_departure.result c.requires.plan.legs c.requires.leg c.requires.before c.with_departure.ensures.leg

use Rattle.std.proofs.Common.{sym, arith}
use Rattle.desk_data.specs.Situation.{latest}
use Rattle.desk_model.specs.Push.{can_depart}
use Rattle.desk_model.proofs.ChoiceLaws.{first_within-from, none-first_within}
use Rattle.hour_counts.proofs.departs.first_from.Goals as goal

pub returns-in-None-clause-first : goal.returns-in-None-clause-first
returns-in-None-clause-first g c =
    let I = c.args.inst.now in
    let can = can_depart I (g.P.ReadPlan.plan_of c.args.plan.now) c.args.plane.0 c.args.leg.0 in
    sym (first_within-from c.args.low (latest I c.args.leg.0) can c.loop-at.at (record {
      from = c.loop-at.invariant.from;
      to = omega arith;
      holds = c.in-None.ensures;
      first = c.loop-at.invariant.none;
    }))

pub returns-clause-first : goal.returns-clause-first
returns-clause-first g c =
    let I = c.args.inst.now in
    let can = can_depart I (g.P.ReadPlan.plan_of c.args.plan.now) c.args.plane.0 c.args.leg.0 in
    sym (none-first_within c.args.low (latest I c.args.leg.0) can (λ s from to. c.loop-at.invariant.none s from (omega arith)))

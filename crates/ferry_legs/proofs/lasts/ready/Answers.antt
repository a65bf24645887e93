use Rattle.std.proofs.Common.{rules, ◌≡◌, ◌+◌, ◌∙◌, sym, arith, max}
use Rattle.std.specs.Prelude.{Some, None}
use Rattle.desk_data.specs.Situation.{now_of, plane_at}
use Rattle.desk_rules.specs.Rotations.{arr}
use Rattle.ferry_legs.proofs.OwnLaws.{ready_last, now_soon}
use Rattle.ferry_legs.proofs.lasts.ready.Goals as goal

pub returns-in-Some-clause-ready : goal.returns-in-Some-clause-ready
returns-in-Some-clause-ready c =
    let I = c.args.inst.now in
    let P = c.args.plan.now in
    let p = c.args.plane.0 in
    let is : c.max.result ≡ max (now_of I) (arr I P c.in-Some.leg.0 + (plane_at I p).turnaround) = search rules in
    is ∙ sym (ready_last I P c.requires.plan c.args.lasts.now c.requires.lasts p (Some c.in-Some.leg) c.requires.plane (search rules))

pub returns-in-Some-clause-limit : goal.returns-in-Some-clause-limit
returns-in-Some-clause-limit c =
    let I = c.args.inst.now in
    let is : c.max.result ≡ max c.now-now.result.0 (c.arrival.result + c.plane.result.now.turnaround) = search rules in
    omega (arith, is, c.now-now.ensures, now_soon I c.parts-rows.ensures.valid, c.arrival.ensures.limit, c.plane.ensures.ranges.turnaround)

pub returns-in-None-clause-ready : goal.returns-in-None-clause-ready
returns-in-None-clause-ready c =
    c.now-now.ensures
    ∙ sym (ready_last c.args.inst.now c.args.plan.now c.requires.plan c.args.lasts.now c.requires.lasts c.args.plane.0 None c.requires.plane (search rules))

pub returns-in-None-clause-limit : goal.returns-in-None-clause-limit
returns-in-None-clause-limit c = omega (arith, c.now-now.ensures, now_soon c.args.inst.now c.parts-rows.ensures.valid)

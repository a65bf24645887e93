use Rattle.std.proofs.Common.{◌<◌, arith}
use Rattle.near_dear.proofs.CalmLaws.{calm-more, calm-at}
use Rattle.near_dear.proofs.calm.calm_from.Goals as goal

pub loop-hour-preserved : goal.loop-hour-preserved
loop-hour-preserved g c =
    let hour = c.loop-hour.hour in
    let some : 0 < hour = (let test = c.loop-hour-test.true in omega (arith, test)) in
    record {
      calm = calm-more c.args.inst.now c.args.plan.now c.args.airport.0 hour some c.loop-hour.invariant.calm (c.is_calm_hour.ensures c.if-is_calm_hour.true);
      few = (let few = c.loop-hour.invariant.few in omega (arith, few));
    }

pub returns : goal.returns
returns g c = calm-at c.args.inst.now c.args.plan.now c.args.airport.0 c.loop-hour.hour c.loop-hour.invariant.calm

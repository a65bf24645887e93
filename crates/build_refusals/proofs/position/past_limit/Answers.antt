use Rattle.std.proofs.Common.{length, ap, arith}
use Rattle.build_refusals.proofs.GroupLemmas.{past_at}
use Rattle.build_refusals.proofs.position.past_limit.Goals as goal

pub returns-then-groups-left : goal.returns-then-groups-left
returns-then-groups-left c = past_at c.args.rows.now c.loop-place.place c.loop-place.left c.index-rows-place.result c.loop-place-test.true c.index-rows-place.is c.loop-place.invariant (omega (arith, c.if-groups-left.true, ap length c.as_slice-groups.ensures))

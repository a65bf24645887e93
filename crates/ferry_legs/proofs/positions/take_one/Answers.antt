use Rattle.std.proofs.Common.{ap, ◌∙◌, arith}
use Rattle.ferry_legs.specs.Positions.{with_one_less}
use Rattle.ferry_legs.proofs.PositionLaws.{one_changed}
use Rattle.ferry_legs.proofs.positions.take_one.Goals as goal

pub loop-k-preserved : goal.loop-k-preserved
loop-k-preserved c =
    one_changed (with_one_less c.args.plane.now) c.args.rows.now.items c.loop-k.rows.items c.loop-k.k c.index.result.now c.with_one_less.result
    (omega (arith, c.loop-k-test.true, c.len-k-end.ensures)) c.loop-k.invariant
    (c.with_one_less.ensures ∙ ap (with_one_less c.args.plane.now) c.index.ensures)

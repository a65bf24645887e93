use Rattle.std.proofs.Common.{◌∙◌}
use Rattle.build_refusals.specs.Orders.{is_order}
use Rattle.build_refusals.proofs.OrderLemmas.{room_more}
use Rattle.build_refusals.proofs.orders.room_after.Goals as goal

pub loop-row-preserved : goal.loop-row-preserved
loop-row-preserved c = c.room_after_row-left.ensures ∙ room_more is_order c.args.rows.now c.args.room c.loop-row.row-index c.loop-row.left c.row-item.result c.loop-row-test.true c.row-item.is c.loop-row.invariant

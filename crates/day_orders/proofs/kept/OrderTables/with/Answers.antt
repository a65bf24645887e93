use Rattle.std.proofs.Common.{take, get_or, None}
use Rattle.std.proofs.lemmas.List.{take_more}
use Rattle.day_orders.specs.declared.orders.Order.{Order}
use Rattle.day_orders.specs.declared.orders.Order.TheVariants.{Flight}
use Rattle.day_orders.proofs.KeptLemmas.{adds_none, adds_more}
use Rattle.day_orders.proofs.kept.OrderTables.with.Goals as goal

pub loop-order-init : goal.loop-order-init
loop-order-init c = rw c.in_ok-kept.ensures (adds_none c.args.self.now c.requires.order)

pub loop-order-preserved : goal.loop-order-preserved
loop-order-preserved c =
    let orders = c.args.orders.now in
    let i = c.loop-order.order-index in
    let none : Order = Flight (record { 0 = 0 }) None in
    rw (take_more orders i none c.loop-order-test.true) (adds_more (take i orders) (get_or orders i none) c.args.self.now c.loop-order.kept c.take.new.self c.loop-order.invariant c.in_ok-take.ensures)

use Rattle.std.proofs.Common.{take}
use Rattle.day_orders.specs.KeptLists.{Adds}
use Rattle.day_orders.proofs.kept.OrderTables.with.Given as goal

-- the orders so far are kept
abbrev pub invariant-loop-order : goal.invariant-loop-order
invariant-loop-order l = Adds (take l.order-index l.orders) l.self l.kept

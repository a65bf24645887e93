use Rattle.std.proofs.Common.{◌≡◌, take}
use Rattle.build_refusals.specs.Orders.{room_after}
use Rattle.build_refusals.proofs.orders.room_after.Given as goal

-- how many more may come after the rows so far
abbrev pub invariant-loop-row : goal.invariant-loop-row
invariant-loop-row l = l.left ≡ room_after l.room (take l.row-index l.rows)

use Rattle.std.proofs.Common.{◌≡◌, ◌++◌, take}
use Rattle.desk_build.specs.Batches.{orders_of}
use Rattle.desk_build.proofs.batches.push_orders.Given as goal

-- those that stood before, and those of the rows so far
abbrev pub invariant-loop-row : goal.invariant-loop-row
invariant-loop-row l = l.orders.items ≡ l.initial.orders.items ++ orders_of l.tables.files.now (take l.row-index l.rows)

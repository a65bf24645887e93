use Rattle.std.proofs.Common.{◌≡◌, take, drop}
use Rattle.build_refusals.specs.First.{refusal_from, first_refusal_in}
use Rattle.build_refusals.specs.Orders.{line_of, room_after, alt_cause}
use Rattle.build_refusals.proofs.orders.alt_refusal.Given as goal

-- the first that is refused among the rows that are left is the first of all, and so many more may come after the rows so far
abbrev pub invariant-loop-row : goal.invariant-loop-row
invariant-loop-row l = record {
  so_far : refusal_from (alt_cause l.tables.files.now l.room l.rows) (λ n row. line_of row) l.row-index (drop l.row-index l.rows) ≡ first_refusal_in (alt_cause l.tables.files.now l.room l.rows) line_of l.rows;
  more : l.left ≡ room_after l.room (take l.row-index l.rows);
}

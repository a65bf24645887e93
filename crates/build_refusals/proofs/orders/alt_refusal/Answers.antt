use Rattle.std.proofs.Common.{◌≡◌, Some, None, take, ap, ◌∙◌, arith}
use Rattle.std.specs.List.{count_by}
use Rattle.build_refusals.specs.First.{first_refusal_in}
use Rattle.build_refusals.specs.Orders.{line_of, is_order, order_cause, alt_cause}
use Rattle.build_refusals.proofs.FirstLemmas.{of_row, refused_more, refused_here, refused_end}
use Rattle.build_refusals.proofs.OrderLemmas.{room_more, no_room}
use Rattle.build_refusals.proofs.orders.alt_refusal.Goals as goal

pub returns-in-Some : goal.returns-in-Some
returns-in-Some c =
    let x = c.args.tables.now.files.now in
    let rows = c.args.rows.now in
    let at = c.loop-row.row-index in
    let row = c.row-item.result in
    let cause = alt_cause x c.args.room rows in
    let full = no_room c.args.room (count_by is_order (take at rows)) c.loop-row.left c.loop-row.invariant.more in
    let why : Some c.in-Some.cause ≡ cause at row = c.in-Some.ensures ∙ ap (λ full. order_cause x full row) full in
    ap (λ n. Some (n, c.in-Some.cause)) c.line_of.ensures
    ∙ refused_here cause (of_row line_of) rows at row c.in-Some.cause (first_refusal_in cause line_of rows) c.loop-row-test.true c.row-item.is why c.loop-row.invariant.so_far

pub loop-row-preserved : goal.loop-row-preserved
loop-row-preserved c =
    let x = c.args.tables.now.files.now in
    let rows = c.args.rows.now in
    let at = c.loop-row.row-index in
    let row = c.row-item.result in
    let cause = alt_cause x c.args.room rows in
    let full = no_room c.args.room (count_by is_order (take at rows)) c.loop-row.left c.loop-row.invariant.more in
    let why : None ≡ cause at row = c.in_default.ensures ∙ ap (λ full. order_cause x full row) full in
    record {
      so_far = refused_more cause (of_row line_of) rows at row (first_refusal_in cause line_of rows) c.loop-row-test.true c.row-item.is why c.loop-row.invariant.so_far;
      more = c.room_after_row-left.ensures ∙ room_more is_order rows c.args.room at c.loop-row.left row c.loop-row-test.true c.row-item.is c.loop-row.invariant.more;
    }

pub returns : goal.returns
returns c =
    let rows = c.args.rows.now in
    let cause = alt_cause c.args.tables.now.files.now c.args.room rows in
    refused_end cause (of_row line_of) rows c.loop-row.row-index (first_refusal_in cause line_of rows) (omega arith) c.loop-row.invariant.so_far

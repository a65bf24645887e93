use Rattle.std.proofs.Common.{sym, arith}
use Rattle.file_joins.specs.Join.{all_of, seat_of}
use Rattle.desk_text.specs.declared.fault.RowFault.TheVariants as row_fault
use Rattle.file_joins.proofs.AllOf.{begins, goes_on, stops, ends, reported_fault}
use Rattle.file_joins.proofs.names.seats_of.Goals as goal

pub loop-seat-init : goal.loop-seat-init
loop-seat-init c = rw c.in_ok-seats.ensures.items (begins (seat_of c.args.names.now) c.args.named.now)

pub loop-seat-preserved : goal.loop-seat-preserved
loop-seat-preserved c =
    let join = seat_of c.args.names.now in
    let named = c.args.named.now in
    let here = c.loop-seat in
    rw c.in_ok-push.ensures.items (goes_on join named here.seats.items here.seat-index c.seat-item.result c.in_ok-seat_of.field-0 (all_of join named) c.loop-seat-test.true c.seat-item.is (sym c.in_ok-seat_of.ensures) here.invariant)

pub returns-in_err-seat_of : goal.returns-in_err-seat_of
returns-in_err-seat_of c =
    let join = seat_of c.args.names.now in
    let named = c.args.named.now in
    let here = c.loop-seat in
    let fault = row_fault.Refused c.in_err-seat_of.field-0.0 in
    reported_fault c.from_residual-in_err-seat_of.result fault (all_of join named) c.from_residual-in_err-seat_of.ensures.1
    (stops join named here.seats.items here.seat-index c.seat-item.result (all_of join named) fault c.loop-seat-test.true c.seat-item.is (sym c.in_err-seat_of.ensures) here.invariant)

pub returns : goal.returns
returns c =
    let join = seat_of c.args.names.now in
    let named = c.args.named.now in
    let here = c.loop-seat in
    ends join named here.seats.items here.seat-index (all_of join named) (omega arith) here.invariant

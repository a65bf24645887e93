use Rattle.std.proofs.Common.{sym, arith}
use Rattle.file_joins.specs.Stated.{path_of}
use Rattle.file_joins.proofs.PathLemmas.{begins, goes_on, stops, ends}
use Rattle.file_joins.proofs.stated.path_of.Goals as goal

pub loop-seat-init : goal.loop-seat-init
loop-seat-init c = rw c.in_ok-path.ensures.items (begins c.args.names.now c.args.seats.now)

pub loop-seat-preserved : goal.loop-seat-preserved
loop-seat-preserved c =
    let I = c.args.names.now in
    let rows = c.args.seats.now in
    let here = c.loop-seat in
    rw c.in_ok-push.ensures.items (goes_on I rows here.path.items here.seat-index c.seat-item.result c.in_ok-seat_of.field-0 (path_of I rows) c.loop-seat-test.true c.seat-item.is (sym c.in_ok-seat_of.ensures) here.invariant)

pub returns-in_err-seat_of : goal.returns-in_err-seat_of
returns-in_err-seat_of c =
    let I = c.args.names.now in
    let rows = c.args.seats.now in
    let here = c.loop-seat in
    stops I rows c.from_residual-in_err-seat_of.result here.path.items here.seat-index c.seat-item.result c.in_err-seat_of.field-0.0 (path_of I rows) c.loop-seat-test.true c.seat-item.is (sym c.in_err-seat_of.ensures) c.from_residual-in_err-seat_of.ensures.1 here.invariant

pub returns : goal.returns
returns c =
    let I = c.args.names.now in
    let rows = c.args.seats.now in
    let here = c.loop-seat in
    ends I rows here.path.items here.seat-index (path_of I rows) (omega arith) here.invariant

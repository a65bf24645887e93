use Rattle.std.proofs.Common.{ℕ, Vec, Global, [], take, refl, arith}
use Rattle.desk_model.specs.declared.answer.Event.{Event}
use Rattle.file_joins.specs.Join.{all_after, asked_of}
use Rattle.file_joins.proofs.AllAfter.{begins, goes_on, ends}
use Rattle.file_joins.proofs.RowLemmas.{due_next, row_gives, row_stops}
use Rattle.file_joins.proofs.journal.events.Goals as goal

pub loop-row-init : goal.loop-row-init
loop-row-init c = rw c.in_ok-events.ensures.items (record { count = refl; joined = begins (asked_of c.args.names.now c.args.batches.now) c.args.rows.now })

pub loop-row-preserved : goal.loop-row-preserved
loop-row-preserved c =
    let I = c.args.names.now in
    let batches = c.args.batches.now in
    let rows = c.args.rows.now in
    let here = c.loop-row in
    let row = c.row-item.result in
    let k = here.row-index in
    let all = all_after (asked_of I batches) [] rows in
    rw c.in_ok-push-in-Ok.ensures.items (record {
      count = due_next rows k row here.due c.due_after-due.result c.loop-row-test.true c.row-item.is here.invariant.count c.due_after-due.ensures;
      joined = goes_on (asked_of I batches) rows here.events.items k row (row.caller, c.in-Ok.event) all c.loop-row-test.true c.row-item.is (row_gives I batches here.due (take k rows) row here.invariant.count c.in-Ok.event c.in-Ok.ensures) here.invariant.joined;
    })

pub returns-in-Err : goal.returns-in-Err
returns-in-Err c =
    let I = c.args.names.now in
    let batches = c.args.batches.now in
    let rows = c.args.rows.now in
    let here = c.loop-row in
    let row = c.row-item.result in
    row_stops {Answer = Vec (ℕ × Event) Global} (λ v. v.items) I batches rows here.events.items here.row-index here.due row (all_after (asked_of I batches) [] rows) c.in-Err.fault c.fault_at.result c.loop-row-test.true c.row-item.is here.invariant.count c.in-Err.ensures c.fault_at.ensures here.invariant.joined

pub returns : goal.returns
returns c =
    let I = c.args.names.now in
    let batches = c.args.batches.now in
    let rows = c.args.rows.now in
    let here = c.loop-row in
    ends (asked_of I batches) rows here.events.items here.row-index (all_after (asked_of I batches) [] rows) (omega arith) here.invariant.joined

use Rattle.std.proofs.Common.{arith}
use Rattle.file_joins.specs.Join.{all_of, step_of}
use Rattle.file_joins.proofs.AllOf.{begins, goes_on, stops, ends, reported_fault}
use Rattle.file_joins.proofs.steps.steps_of.Goals as goal

pub loop-step-init : goal.loop-step-init
loop-step-init c = rw c.in_ok-steps.ensures.items (begins (step_of c.args.names.now) c.args.named.now)

pub loop-step-preserved : goal.loop-step-preserved
loop-step-preserved c =
    let join = step_of c.args.names.now in
    let named = c.args.named.now in
    let here = c.loop-step in
    rw c.in_ok-push.ensures.items (goes_on join named here.steps.items here.step-index c.step-item.result c.in_ok-step_of.field-0 (all_of join named) c.loop-step-test.true c.step-item.is c.in_ok-step_of.ensures here.invariant)

pub returns-in_err-step_of : goal.returns-in_err-step_of
returns-in_err-step_of c =
    let join = step_of c.args.names.now in
    let named = c.args.named.now in
    let here = c.loop-step in
    let fault = c.in_err-step_of.field-0.0 in
    reported_fault c.from_residual-in_err-step_of.result fault (all_of join named) c.from_residual-in_err-step_of.ensures.1
    (stops join named here.steps.items here.step-index c.step-item.result (all_of join named) fault c.loop-step-test.true c.step-item.is c.in_err-step_of.ensures here.invariant)

pub returns : goal.returns
returns c =
    let join = step_of c.args.names.now in
    let named = c.args.named.now in
    let here = c.loop-step in
    ends join named here.steps.items here.step-index (all_of join named) (omega arith) here.invariant

use Rattle.std.proofs.Common.{◌≡◌, ◌++◌, ◌∷◌, []}
use Rattle.desk_journal.specs.Reading.{many, step_at}
use Rattle.desk_journal.proofs.Loops.{goes_on, ends, is_done, gives_none, gives_some}
use Rattle.desk_journal.proofs.reading.steps_of.Goals as goal

pub returns-in_default : goal.returns-in_default
returns-in_default c = ends step_at c.loop.steps.items c.args.count c.loop.counter c.loop.rest.now (many step_at c.args.count c.args.bytes.now) c.loop-test.true (gives_none _ c.in_ok-step.field-0 (step_at c.loop.rest.now) c.in_default.is c.in_ok-step.ensures) c.loop.invariant

pub loop-preserved : goal.loop-preserved
loop-preserved c =
    let e : c.push.new.self.items ≡ c.loop.steps.items ++ c.in-Some.step ∷ [] = c.in_ok-push.ensures.items in
    rw e (goes_on step_at c.loop.steps.items c.args.count c.loop.counter c.loop.rest.now c.in-Some.step c.in-Some.after.now (many step_at c.args.count c.args.bytes.now) c.loop-test.true (gives_some _ c.in_ok-step.field-0 _ (step_at c.loop.rest.now) c.in-Some.is c.in_ok-step.ensures) c.loop.invariant)

pub returns : goal.returns
returns c = is_done step_at c.loop.steps.items c.args.count c.loop.counter c.loop.rest.now (many step_at c.args.count c.args.bytes.now) c.loop-test.false c.loop.invariant

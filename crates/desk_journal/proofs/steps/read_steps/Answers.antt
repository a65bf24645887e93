use Rattle.std.proofs.Common.{arith}
use Rattle.std.proofs.lemmas.List.Elements.{All-push}
use Rattle.desk_text.specs.Lines.{fields}
use Rattle.desk_journal.specs.Facts.{IsNamedStep}
use Rattle.desk_journal.specs.Steps.{steps_of}
use Rattle.desk_journal.proofs.StepLemmas.{goes_on, refused, fewer, all_read}
use Rattle.desk_journal.proofs.steps.read_steps.Goals as goal

pub returns-in_err-step_at-clause-exact : goal.returns-in_err-step_at-clause-exact
returns-in_err-step_at-clause-exact g c =
    let T = g.F.TokenForm.readers c.args.form.now in
    refused T c.loop-word.steps.items (steps_of T (fields c.args.detail.now)) c.loop-word.tokens c.in-Some.word.now c.next.new.self c.in-Some.ensures.exact c.loop-word.invariant.read (λ steps. steps.items) c.from_residual-in_err-step_at.result c.in_err-step_at.field-0.0 c.step_at.new.tokens c.from_residual-in_err-step_at.ensures c.in_err-step_at.ensures.exact

pub loop-word-smaller : goal.loop-word-smaller
loop-word-smaller g c =
    let T = g.F.TokenForm.readers c.args.form.now in
    let less = fewer T c.loop-word.steps.items (steps_of T (fields c.args.detail.now)) c.loop-word.tokens c.in-Some.word.now c.next.new.self c.in-Some.ensures.exact c.loop-word.invariant.read c.in_ok-step_at.field-0 c.step_at.new.tokens c.in_ok-step_at.ensures.exact in
    omega arith

pub loop-word-preserved : goal.loop-word-preserved
loop-word-preserved g c =
    let T = g.F.TokenForm.readers c.args.form.now in
    rw c.in_ok-push.ensures.items (record {
      read = goes_on T c.loop-word.steps.items (steps_of T (fields c.args.detail.now)) c.loop-word.tokens c.in-Some.word.now c.next.new.self c.in-Some.ensures.exact c.loop-word.invariant.read c.in_ok-step_at.field-0 c.step_at.new.tokens c.in_ok-step_at.ensures.exact;
      facts = All-push IsNamedStep c.loop-word.steps.items c.in_ok-step_at.field-0 c.loop-word.invariant.facts c.in_ok-step_at.ensures.facts;
    })

pub returns-clause-exact : goal.returns-clause-exact
returns-clause-exact g c =
    let T = g.F.TokenForm.readers c.args.form.now in
    all_read T c.loop-word.steps.items (steps_of T (fields c.args.detail.now)) c.loop-word.tokens c.in_default.ensures.exact.0 c.loop-word.invariant.read

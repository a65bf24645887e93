use Rattle.std.proofs.Common.{◌≡◌, sym, ap, subst, ◌∙◌, arith}
use Rattle.std.specs.Prelude.{None}
use Rattle.desk_data.specs.Situation.{Situation}
use Rattle.desk_core.specs.Recorded.{state_of}
use Rattle.desk_pool.specs.Finders.{IsFinderOf}
use Rattle.recovery_commands.specs.Ending.{after_descent, after_steps, IsUnderWay}
use Rattle.recovery_commands.specs.Steps.{next_of}
use Rattle.recovery_commands.proofs.DescendLaws.{on-err, none-since, begun, stepped-on, stopped, quiet-end, still-batch, still-inst}
use Rattle.recovery_commands.proofs.descent.descend.Goals as goal

pub loop-init : goal.loop-init
loop-init g c = record { steps = begun c.args.most c.args.book.now; finder = c.new-finder.ensures (state_of c.args.book.now).inst }

pub step-requires : goal.step-requires
step-requires g c =
    subst (λ (I : Situation). IsFinderOf I c.loop.search.finder) (sym (still-inst c.loop.counter c.args.most c.args.book.now c.loop.book c.loop.invariant.steps)) c.loop.invariant.finder

pub returns-in_err-step-clause-err : goal.returns-in_err-step-clause-err
returns-in_err-step-clause-err g c =
    let B = c.args.book.now in
    let under : IsUnderWay c.args.most B c.step.new.book = record { steps = c.loop.counter; reached = c.in_err-step.ensures.err ∙ c.loop.invariant.steps } in
    on-err c.from_residual.result (IsUnderWay c.args.most B c.step.new.book) under

pub returns-then-not-branch-clause-ok : goal.returns-then-not-branch-clause-ok
returns-then-not-branch-clause-ok g c =
    let none : next_of c.args.most c.loop.book ≡ None = none-since (next_of c.args.most c.loop.book) (sym c.in_ok-step.ensures.went ∙ c.if-not-branch.true) in
    stopped c.loop.counter c.args.most c.args.book.now c.loop.book c.step.new.book (omega arith) c.loop.invariant.steps none c.in_ok-step.ensures.ok

pub returns-then-not-branch-clause-quiet : goal.returns-then-not-branch-clause-quiet
returns-then-not-branch-clause-quiet g c =
    let none : next_of c.args.most c.loop.book ≡ None = none-since (next_of c.args.most c.loop.book) (sym c.in_ok-step.ensures.went ∙ c.if-not-branch.true) in
    let is = stopped c.loop.counter c.args.most c.args.book.now c.loop.book c.step.new.book (omega arith) c.loop.invariant.steps none c.in_ok-step.ensures.ok in
    λ given. quiet-end c.args.most c.args.book.now c.step.new.book is (sym c.ending.ensures ∙ given)

pub loop-preserved : goal.loop-preserved
loop-preserved g c =
    let steps = c.loop.invariant.steps in
    record {
      steps = c.in_ok-step.ensures.ok ∙ stepped-on c.loop.counter c.args.most c.args.book.now c.loop.book steps;
      finder = subst (λ (I : Situation). IsFinderOf I c.step.new.search.finder) (still-inst c.loop.counter c.args.most c.args.book.now c.loop.book steps) c.step.ensures.finder;
    }

pub returns-clause-quiet : goal.returns-clause-quiet
returns-clause-quiet g c =
    let B = c.args.book.now in
    let all : c.loop.counter ≡ c.args.most = omega arith in
    let is : c.loop.book ≡ after_descent c.args.most B = c.loop.invariant.steps ∙ ap (λ n. after_steps n c.args.most B) all in
    λ given. quiet-end c.args.most B c.loop.book is (sym c.ending-2.ensures ∙ given)

pub tell-requires : goal.tell-requires
tell-requires g c = still-batch c.loop.counter c.args.most c.args.book.now c.loop.book c.args.batch c.loop.invariant.steps c.requires

pub tell-requires-2 : goal.tell-requires-2
tell-requires-2 g c = still-batch c.loop.counter c.args.most c.args.book.now c.loop.book c.args.batch c.loop.invariant.steps c.requires

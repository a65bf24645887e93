use Rattle.std.proofs.Common.{◌≡◌, sym, ap, ◌∙◌}
use Rattle.std.specs.Prelude.{Some}
use Rattle.desk_model.specs.declared.answer.Event.TheVariants as event
use Rattle.desk_core.specs.Recorded.{Recorded, with_entry}
use Rattle.recovery_commands.specs.Steps.{next_of}
use Rattle.recovery_commands.proofs.DescendLaws.{step-recorded}
use Rattle.recovery_commands.proofs.step.step.Goals as goal

pub returns-in_ok-propose-in-Some-clause-ok : goal.returns-in_ok-propose-in-Some-clause-ok
returns-in_ok-propose-in-Some-clause-ok g c =
    let m = c.in-Some.m in
    let is : next_of c.args.most c.args.book.now ≡ Some m = sym c.in_ok-m.ensures.ok ∙ c.in-Some.is in
    c.in_ok-propose-in-Some.ensures.after
    ∙ ap (λ (B : Recorded). with_entry B 0 (event.Move m)) c.proposal.ensures.book
    ∙ step-recorded c.args.most c.args.book.now m is

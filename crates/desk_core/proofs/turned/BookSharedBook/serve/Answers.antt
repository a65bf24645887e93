use Rattle.desk_model.specs.declared.answer.Event.TheVariants as event
use Rattle.desk_core.proofs.TurnedLaws.{served_call}
use Rattle.desk_core.proofs.turned.BookSharedBook.serve.Goals as goal

pub returns-in-Batch-clause-ok : goal.returns-in-Batch-clause-ok
returns-in-Batch-clause-ok c =
    rw c.in-Batch.is (served_call c.args.self.now c.intake.new.self c.args.caller (event.Batch c.in-Batch.batch) c.intake.result c.intake.ensures.answer c.intake.ensures.after)

pub returns-in-Move-clause-ok : goal.returns-in-Move-clause-ok
returns-in-Move-clause-ok c =
    rw c.in-Move.is (served_call c.args.self.now c.propose.new.self c.args.caller (event.Move c.in-Move.m) c.propose.result c.propose.ensures.answer c.propose.ensures.after)

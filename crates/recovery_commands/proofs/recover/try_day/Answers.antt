use Rattle.desk_tasks.specs.Runs.{world}
use Rattle.recovery_commands.proofs.RecoverLaws.{tried-book}
use Rattle.recovery_commands.proofs.recover.try_day.Goals as goal

pub returns-in-Ok : goal.returns-in-Ok
returns-in-Ok g c =
    tried-book (world (g.F.Folder.outside c.args.folder.now) (g.O.Sink.report c.args.out.now)) (world (g.F.Folder.outside c.report_history.new.folder) (g.O.Sink.report c.report_history.new.out))
    c.args.inst c.args.batches.now c.args.moves c.in-Ok.done.book c.in-Ok.done.search c.report_history.result c.in-Ok.ensures c.report_history.ensures

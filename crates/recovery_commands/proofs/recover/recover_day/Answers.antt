use Rattle.desk_tasks.specs.Runs.{world}
use Rattle.recovery_commands.proofs.RecoverLaws.{recovered-book}
use Rattle.recovery_commands.proofs.recover.recover_day.Goals as goal

pub returns-in-Ok : goal.returns-in-Ok
returns-in-Ok g c =
    recovered-book (world (g.F.Folder.outside c.args.folder.now) (g.O.Sink.report c.args.out.now)) (world (g.F.Folder.outside c.write_history.new.folder) (g.O.Sink.report c.write_history.new.out))
    c.args.inst c.args.batches.now c.args.moves c.in-Ok.done.book c.in-Ok.done.search c.write_history.result c.in-Ok.ensures c.write_history.ensures

use Rattle.desk_tasks.specs.Runs.{world}
use Rattle.story_commands.proofs.PlayLaws.{played-book}
use Rattle.story_commands.proofs.play.play_events.Goals as goal

pub returns-in-Ok : goal.returns-in-Ok
returns-in-Ok g c =
    played-book (world (g.F.Folder.outside c.args.folder.now) (g.O.Sink.report c.args.out.now)) (world (g.F.Folder.outside c.write_history.new.folder) (g.O.Sink.report c.write_history.new.out))
    c.args.inst c.args.events.now c.in-Ok.book c.write_history.result c.in-Ok.ensures c.write_history.ensures

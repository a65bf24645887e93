use Rattle.std.proofs.Common.{◌∙◌}
use Rattle.desk_tasks.specs.Runs.{world}
use Rattle.story_commands.proofs.CrewLaws.{played-beside}
use Rattle.story_commands.proofs.crews.play_beside_crews.Goals as goal

pub returns-in-Ok : goal.returns-in-Ok
returns-in-Ok g c =
    played-beside (world (g.F.Folder.outside c.args.folder.now) (g.O.Sink.report c.args.out.now)) (world (g.F.Folder.outside c.write_with.new.folder) (g.O.Sink.report c.write_with.new.out))
    c.args.inst c.args.crews.now c.args.events.now c.in-Ok.done.0 c.as_slice.result.now c.write_with.result c.in-Ok.ensures.book (c.as_slice.ensures.value ∙ c.in-Ok.ensures.lines) c.write_with.ensures

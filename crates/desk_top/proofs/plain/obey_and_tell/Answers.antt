use Rattle.desk_tasks.specs.Commands.{asked_here}
use Rattle.desk_tasks.specs.Runs.{world}
use Rattle.desk_tasks.proofs.Composed.{runs-tells_end}
use Rattle.desk_tasks.specs.Team.{nothing}
use Rattle.desk_top.specs.Desk.{meaning_at}
use Rattle.desk_top.proofs.plain.obey_and_tell.Goals as goal

pub returns : goal.returns
returns g c =
    runs-tells_end (meaning_at nothing) (asked_here c.args.command.now) (world (g.F.Folder.outside c.args.folder.now) (g.O.Sink.report c.args.out.now))
    (world (g.F.Folder.outside c.obey-ending.new.folder) (g.O.Sink.report c.obey-ending.new.out)) (g.O.Sink.report c.tell.new.out) c.obey-ending.result c.tell.result c.obey-ending.ensures c.tell.ensures

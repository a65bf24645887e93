use Rattle.desk_tasks.specs.Runs.{world}
use Rattle.desk_top.proofs.Placed.{run-somehow}
use Rattle.desk_top.proofs.workers.reported_by_team.Goals as goal

pub returns : goal.returns
returns g c =
    run-somehow c.args.command.now (world (g.F.Folder.outside c.args.folder.now) (g.O.Sink.report c.args.out.now))
    (world (g.F.Folder.outside c.obey_by_team-ending.new.folder) (g.O.Sink.report c.obey_by_team-ending.new.out)) (g.O.Sink.report c.tell.new.out) c.obey_by_team-ending.result c.tell.result c.obey_by_team-ending.ensures c.tell.ensures

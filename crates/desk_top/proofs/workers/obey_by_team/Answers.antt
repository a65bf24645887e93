use Rattle.std.proofs.Common.{◌≤◌, ℕ, sym, subst}
use Rattle.desk_tasks.specs.declared.ending.Ending.{Ending}
use Rattle.desk_tasks.specs.Runs.{world}
use Rattle.desk_tasks.proofs.Composed.{here}
use Rattle.desk_top.specs.Desk.{ObeysSomehow}
use Rattle.desk_top.proofs.Obeyed.{obeyed-fault-somehow, obeyed-somehow}
use Rattle.desk_top.proofs.workers.obey_by_team.Goals as goal

pub do_team_task-requires-clause-team : goal.do_team_task-requires-clause-team
do_team_task-requires-clause-team g c = λ κs le. subst (λ (n : ℕ). 1 ≤ n) (sym c.in-Ok.ensures.team) c.requires.team

pub returns-in-Err : goal.returns-in-Err
returns-in-Err g c =
    let outside = g.F.Folder.outside in
    let sink = g.O.Sink.report c.args.out.now in
    subst (λ (how : Ending). ObeysSomehow (here c.args.command.now) (world (outside c.args.folder.now) sink) (world (outside c.read_task.new.folder) sink) how) (sym c.from.ensures)
    (obeyed-fault-somehow c.args.command.now (outside c.args.folder.now) (outside c.read_task.new.folder) sink c.in-Err.fault
    c.read_task.ensures.only c.read_task.ensures.in_order c.in-Err.ensures.stops c.in-Err.ensures.cause c.in-Err.ensures.exact)

pub returns-in-Ok : goal.returns-in-Ok
returns-in-Ok g c =
    let outside = g.F.Folder.outside in
    obeyed-somehow c.args.command.now (outside c.args.folder.now) (outside c.read_task.new.folder) (outside c.do_team_task.new.folder) (g.O.Sink.report c.args.out.now) (g.O.Sink.report c.do_team_task.new.out)
    c.in-Ok.task c.do_team_task.result c.read_task.ensures.only c.read_task.ensures.in_order c.in-Ok.ensures.read c.in-Ok.ensures.exact c.in-Ok.ensures.sound c.in-Ok.ensures.files c.do_team_task.ensures

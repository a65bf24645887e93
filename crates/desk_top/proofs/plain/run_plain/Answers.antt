use Rattle.desk_tasks.specs.Commands.{asked_here}
use Rattle.desk_tasks.specs.Runs.{world}
use Rattle.desk_tasks.proofs.PromisedLaw.{runs-as-promised}
use Rattle.desk_tasks.specs.Team.{nothing}
use Rattle.desk_top.specs.Desk.{meanings}
use Rattle.desk_top.proofs.Commands.{here-no-usage}
use Rattle.desk_top.proofs.Placed.{with-nothing}
use Rattle.desk_top.proofs.plain.run_plain.Goals as goal

pub returns : goal.returns
returns g c =
    let command = c.args.command.now in
    let before = world (g.F.Folder.outside c.args.folder.now) (g.O.Sink.report c.args.out.now) in
    let now = world (g.F.Folder.outside c.obey_and_tell.new.folder) (g.O.Sink.report c.obey_and_tell.new.out) in
    record {
      promise = runs-as-promised meanings (asked_here command) before now c.obey_and_tell.result (with-nothing command before now c.obey_and_tell.result c.requires.alone c.obey_and_tell.ensures);
      no_usage = here-no-usage nothing command before now c.obey_and_tell.result c.obey_and_tell.ensures;
    }

use Rattle.std.proofs.Common.{refl}
use Rattle.desk_words.specs.declared.asked.Command.TheVariants as command_is
use Rattle.desk_tasks.specs.Commands.{asked_here}
use Rattle.desk_tasks.specs.Runs.{world}
use Rattle.desk_tasks.proofs.Composed.{here}
use Rattle.desk_tasks.proofs.PromisedLaw.{runs-as-promised}
use Rattle.desk_top.specs.Desk.{meanings, RunsAsPromised}
use Rattle.desk_top.proofs.Commands.{recovered-by-team, here-no-usage}
use Rattle.desk_top.proofs.workers.run_workers.Goals as goal

pub returns : goal.returns
returns g c =
    let command = command_is.Recover c.args.workers c.args.moves c.args.live c.args.watch in
    let before = world (g.F.Folder.outside c.args.folder.now) (g.O.Sink.report c.args.out.now) in
    let now = world (g.F.Folder.outside c.reported_by_team.new.folder) (g.O.Sink.report c.reported_by_team.new.out) in
    let code = c.reported_by_team.result in
    let kept : RunsAsPromised (asked_here command) before now code = runs-as-promised meanings (asked_here command) before now code c.reported_by_team.ensures in
    record {
      searched = λ x tells done. recovered-by-team kept.work before now c.args.workers c.args.moves c.args.live c.args.watch x code c.requires.workers.0 (kept.holds.means.done (here command) refl x tells done);
      promise = kept;
      no_usage = here-no-usage kept.work command before now code kept.holds.runs;
    }

use Rattle.std.proofs.Common.{◌≡◌, refl, sym, ◌∙◌, ap, subst, [], map, false, arith, true}
use Rattle.std.specs.Option.{option_map}
use Rattle.std.specs.Prelude.{None, Some, Option}
use Rattle.std.specs.String.{string_bytes}
use Rattle.desk_folder.specs.declared.files.File.{File}
use Rattle.desk_folder.specs.Outside.{Directories}
use Rattle.desk_words.specs.declared.asked.Command.TheVariants as command_is
use Rattle.desk_words.specs.Asked.{named}
use Rattle.desk_words.specs.Commands.{Asking, command}
use Rattle.desk_tasks.specs.Commands.{asked_by, asks, asks_disk}
use Rattle.desk_tasks.specs.Inputs.{Inputs}
use Rattle.desk_tasks.specs.Reading.{IsUnread}
use Rattle.desk_tasks.specs.Runs.{world}
use Rattle.desk_tasks.proofs.PromisedLaw.{runs-as-promised}
use Rattle.desk_top.specs.Desk.{meanings, RunsAsPromised}
use Rattle.desk_top.specs.Store.{kept_directories, RunsOnDisk, UnlessNamed}
use Rattle.desk_top.proofs.Commands.{done-by, replayed, replayed-crews, recovered-day, recovered-by-team, tried-day, checked, checked-crews, ferried, generated}
use Rattle.desk_top.proofs.Ranges.{unplaced-free}
use Rattle.desk_top.proofs.Stored.{stored}
use Rattle.desk_top.proofs.StorePlaced.{asks-store, kept-asked, other-asked, others-free, own-dirs, same-dirs, store-alone}
use Rattle.desk_top.proofs.desk.desk_main_heard.Goals as goal

-- the bytes of no file
abbrev no_inputs : Inputs
no_inputs f = []

pub reported_run-requires : goal.reported_run-requires
reported_run-requires g c = (c.type_bounds.sync-R, (c.type_bounds.sync-G, others-free (command (map string_bytes c.args.words.now)) (sym (sym (ap (option_map named) c.in-None.is) ∙ c.kept_directories.ensures)) (unplaced-free (map string_bytes c.args.words.now))))

pub stored_run-requires : goal.stored_run-requires
stored_run-requires g c = record { nothing_pending = c.requires.nothing_pending (asks-store (command (map string_bytes c.args.words.now)) (named c.in-Some.dirs) c.in-Some.ensures) }

pub returns-in-None : goal.returns-in-None
returns-in-None g c =
    let words = map string_bytes c.args.words.now in
    let these = command words in
    let ask = asked_by words in
    let before = world (g.F.Folder.outside c.args.folder.now) (g.O.Sink.report c.args.out.now) in
    let now = world (g.F.Folder.outside c.reported_run.new.folder) (g.O.Sink.report c.reported_run.new.out) in
    let code = c.reported_run.result in
    let none : kept_directories these ≡ None = sym c.in-None.ensures in
    let kept : RunsAsPromised ask before now code = runs-as-promised meanings ask before now code c.reported_run.ensures in
    record {
      headline = λ dirs is x tells done. replayed kept.work before now x code (done-by these (command_is.Replay false, Some dirs) before now x code kept is tells done);
      crewed = λ dirs is x tells done. replayed-crews kept.work before now x code (done-by these (command_is.Replay true, Some dirs) before now x code kept is tells done);
      recovered = λ moves dirs is x tells done. recovered-day kept.work before now moves x code (done-by these (command_is.Recover 0 moves false false, Some dirs) before now x code kept is tells done);
      searched = λ workers moves live watch dirs is some x tells done. recovered-by-team kept.work before now workers moves live watch x code some (done-by these (command_is.Recover workers moves live watch, Some dirs) before now x code kept is tells done);
      tried = λ seed size is done. tried-day kept.work before now seed size no_inputs code (done-by these (command_is.Trial seed size, None) before now no_inputs code kept is (λ f among. absurd cc) done);
      checked = λ dirs is x tells done. checked kept.work before now x code (done-by these (command_is.Check false, Some dirs) before now x code kept is tells done);
      checked_crews = λ dirs is x tells done. checked-crews kept.work before now x code (done-by these (command_is.Check true, Some dirs) before now x code kept is tells done);
      ferried = λ dirs is x tells done. ferried kept.work before now x code (done-by these (command_is.Ferry, Some dirs) before now x code kept is tells done);
      generated = λ seed size dirs is done. generated kept.work before now seed size no_inputs code (done-by these (command_is.Gen seed size, Some dirs) before now no_inputs code kept is (λ f among. absurd cc) done);
      stored_headline = λ dirs is x tells done. absurd (other-asked these dirs none is);
      stored_promise = λ dirs is. absurd (other-asked these dirs none is);
      stored = λ dirs is x tells began. absurd (other-asked these dirs none is);
      untouched = λ dirs is x tells. absurd (other-asked these dirs none is);
      stored_unasked = λ dirs is x tells r refused. absurd (other-asked these dirs none is);
      stored_refused = λ dirs is three. absurd (other-asked these dirs none is);
      stored_failed = λ dirs is eight. absurd (other-asked these dirs none is);
      stored_in = λ dirs is at. absurd (other-asked these dirs none is);
      stored_unnamed = λ dirs is. absurd (other-asked these dirs none is);
      stored_unread = λ dirs is. absurd (other-asked these dirs none is);
      disk_kept = omega arith;
      disk_unshown = λ unshown. unshown;
      other_disk = λ free. refl;
      promise = λ free. kept;
    }

pub returns-in-Some : goal.returns-in-Some
returns-in-Some g c =
    let words = map string_bytes c.args.words.now in
    let these = command words in
    let own = named c.in-Some.dirs in
    let before = world (g.F.Folder.outside c.args.folder.now) (g.O.Sink.report c.args.out.now) in
    let now = world (g.F.Folder.outside c.stored_run.new.folder) (g.O.Sink.report c.stored_run.new.out) in
    let code = c.stored_run.result in
    let run = c.stored_run.ensures in
    let asked : these ≡ Some (command_is.Store, Some own) = kept-asked these own c.in-Some.ensures in
    let faults = g.D.Disk.faults c.args.disk.now in
    let later = g.D.Disk.faults c.stored_run.new.disk in
    let shown = g.D.Disk.shown c.args.disk.now in
    let told = g.D.Disk.shown c.stored_run.new.disk in
    let kept = subst (λ (o : Option Asking). RunsOnDisk (option_map asks o) before now faults later shown told code) (sym asked) run.promise in
    record {
      headline = λ dirs is x tells done. absurd (store-alone these own asked (ap (λ (o : Option Asking). asks_disk (option_map asks o)) is));
      crewed = λ dirs is x tells done. absurd (store-alone these own asked (ap (λ (o : Option Asking). asks_disk (option_map asks o)) is));
      recovered = λ moves dirs is x tells done. absurd (store-alone these own asked (ap (λ (o : Option Asking). asks_disk (option_map asks o)) is));
      searched = λ workers moves live watch dirs is some x tells done. absurd (store-alone these own asked (ap (λ (o : Option Asking). asks_disk (option_map asks o)) is));
      tried = λ seed size is done. absurd (store-alone these own asked (ap (λ (o : Option Asking). asks_disk (option_map asks o)) is));
      checked = λ dirs is x tells done. absurd (store-alone these own asked (ap (λ (o : Option Asking). asks_disk (option_map asks o)) is));
      checked_crews = λ dirs is x tells done. absurd (store-alone these own asked (ap (λ (o : Option Asking). asks_disk (option_map asks o)) is));
      ferried = λ dirs is x tells done. absurd (store-alone these own asked (ap (λ (o : Option Asking). asks_disk (option_map asks o)) is));
      generated = λ seed size dirs is done. absurd (store-alone these own asked (ap (λ (o : Option Asking). asks_disk (option_map asks o)) is));
      stored_headline = λ dirs is x tells done. stored own before now faults later shown told x code run.promise tells done;
      stored_promise = λ dirs is. kept;
      stored = λ dirs is x tells began. run.stored x tells began;
      untouched = λ dirs is x tells. run.untouched x tells;
      stored_unasked = λ dirs is x tells r refused. run.unasked x tells r refused;
      stored_refused = λ dirs is three. run.refused three;
      stored_failed = λ dirs is eight. run.failed eight;
      stored_in = λ dirs is at. same-dirs these own dirs (g.D.Disk.directory c.args.disk.now) (g.D.Disk.directory c.stored_run.new.disk) asked is (run.directory at);
      stored_unnamed = λ dirs is. subst (λ (d : Directories). UnlessNamed before.folder.directories now.folder.directories d (c.stored_run.new.disk ≡ c.args.disk.now)) (own-dirs these own dirs asked is) run.unnamed;
      stored_unread = λ dirs is. subst (λ (d : Directories). UnlessNamed (g.D.Disk.directory c.args.disk.now) (g.D.Disk.directory c.stored_run.new.disk) d.output ((f : File) → IsUnread before.folder now.folder f)) (own-dirs these own dirs asked is) run.unread;
      disk_kept = run.kept;
      disk_unshown = run.unshown;
      other_disk = λ free. absurd (store-alone these own asked free);
      promise = λ free. absurd (store-alone these own asked free);
    }

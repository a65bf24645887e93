use Rattle.std.proofs.Common.{◌≡◌, refl, inl, inr, arith}
use Rattle.desk_tasks.specs.declared.ending.Ending.TheVariants as ending
use Rattle.desk_tasks.specs.Runs.{world}
use Rattle.desk_words.specs.Asked.{named}
use Rattle.story_commands.specs.Journal.{OnlyOpens}
use Rattle.desk_top.specs.Store.{StandsAlways}
use Rattle.desk_top.proofs.StoreLaws.{shown-same}
use Rattle.desk_top.proofs.StorePlaced.{kept-placed, kept-unplaced, kept-unnamed, began-placed, tells-placed, not-placed, never-began, eight-only, still-placed, folder-named, holds-unnamed, weaker-unnamed, unread-placed, unread-still}
use Rattle.desk_top.proofs.desk.stored_run.Goals as goal

pub returns-in-Ok : goal.returns-in-Ok
returns-in-Ok g c =
    let before = g.F.Folder.outside c.args.folder.now in
    let placed = g.F.Folder.outside c.place.new.self in
    let now = g.F.Folder.outside c.run_on_disk.new.folder in
    let sink = g.O.Sink.report c.args.out.now in
    let later = g.O.Sink.report c.run_on_disk.new.out in
    let dirs = named c.args.dirs.now in
    let only = c.place.ensures.others in
    let faults = g.D.Disk.faults c.args.disk.now in
    let run = c.run_on_disk.ensures in
    record {
      promise = kept-placed dirs before placed now sink later faults (g.D.Disk.faults c.run_on_disk.new.disk) (g.D.Disk.shown c.args.disk.now) (g.D.Disk.shown c.run_on_disk.new.disk) c.run_on_disk.result c.in-Ok.field-0 c.in-Ok.ensures.names only run.promise;
      stored = λ x tells began. run.stored x (tells-placed before placed x only tells) (began-placed before placed now sink later c.run_on_disk.result only began);
      untouched = λ x tells. run.untouched x (tells-placed before placed x only tells);
      unasked = λ x tells. run.unasked x (tells-placed before placed x only tells);
      refused = run.refused;
      failed = run.failed;
      kept = run.kept;
      unshown = run.unshown;
      directory = run.directory;
      unnamed = folder-named (c.run_on_disk.new.disk ≡ c.args.disk.now) before.directories placed.directories now.directories dirs c.in-Ok.field-0 c.in-Ok.ensures.names
          (still-placed (world placed sink) (world now later) faults (g.D.Disk.faults c.run_on_disk.new.disk) (g.D.Disk.shown c.args.disk.now) (g.D.Disk.shown c.run_on_disk.new.disk) c.run_on_disk.result run.promise);
      unread = weaker-unnamed (g.D.Disk.directory c.args.disk.now) (g.D.Disk.directory c.run_on_disk.new.disk) dirs.output (unread-placed before placed now only) run.unread;
    }

pub returns-in-Err-Failed : goal.returns-in-Err-Failed
returns-in-Err-Failed g c =
    let before = g.F.Folder.outside c.args.folder.now in
    let placed = g.F.Folder.outside c.place.new.self in
    let sink = g.O.Sink.report c.args.out.now in
    let now = g.O.Sink.report c.tell.new.out in
    let shown = g.D.Disk.shown c.args.disk.now in
    let faults = g.D.Disk.faults c.args.disk.now in
    let code = c.tell.result in
    let given = c.tell.ensures in
    let only = c.place.ensures.others in
    record {
      promise = kept-unplaced (named c.args.dirs.now) before placed sink now faults faults shown shown code only ((rw c.in-Err-Failed.field-0-is at c.in-Err-Failed.ensures).faults.rose refl) given;
      stored = λ x tells began. absurd (never-began before placed sink now ending.PlaceFault given.answer code only given.status (inl refl) began);
      untouched = λ x tells. shown-same shown shown (StandsAlways x) refl c.requires.nothing_pending (λ was opens. inl opens);
      unasked = λ x tells r is. inl refl;
      refused = λ three. shown-same shown shown OnlyOpens refl c.requires.nothing_pending (λ was opens. opens);
      failed = λ eight. absurd (eight-only ending.PlaceFault given.answer code given.status (inl refl) eight);
      kept = omega arith;
      unshown = λ none. none;
      directory = λ at. absurd (not-placed ending.PlaceFault given.answer code given.status (inl refl) at);
      unnamed = holds-unnamed before.directories placed.directories (named c.args.dirs.now) refl;
      unread = holds-unnamed (g.D.Disk.directory c.args.disk.now) (g.D.Disk.directory c.args.disk.now) (named c.args.dirs.now).output (unread-placed before placed placed only (unread-still placed));
    }

pub returns-in-Err-Memory : goal.returns-in-Err-Memory
returns-in-Err-Memory g c =
    let before = g.F.Folder.outside c.args.folder.now in
    let placed = g.F.Folder.outside c.place.new.self in
    let sink = g.O.Sink.report c.args.out.now in
    let now = g.O.Sink.report c.tell-in-Err-Memory.new.out in
    let shown = g.D.Disk.shown c.args.disk.now in
    let faults = g.D.Disk.faults c.args.disk.now in
    let code = c.tell-in-Err-Memory.result in
    let given = c.tell-in-Err-Memory.ensures in
    let only = c.place.ensures.others in
    record {
      promise = kept-unnamed (named c.args.dirs.now) before placed sink now faults faults shown shown code only given;
      stored = λ x tells began. absurd (never-began before placed sink now ending.Memory given.answer code only given.status (inr (inl refl)) began);
      untouched = λ x tells. shown-same shown shown (StandsAlways x) refl c.requires.nothing_pending (λ was opens. inl opens);
      unasked = λ x tells r is. inl refl;
      refused = λ three. shown-same shown shown OnlyOpens refl c.requires.nothing_pending (λ was opens. opens);
      failed = λ eight. absurd (eight-only ending.Memory given.answer code given.status (inr refl) eight);
      kept = omega arith;
      unshown = λ none. none;
      directory = λ at. absurd (not-placed ending.Memory given.answer code given.status (inr (inl refl)) at);
      unnamed = holds-unnamed before.directories placed.directories (named c.args.dirs.now) refl;
      unread = holds-unnamed (g.D.Disk.directory c.args.disk.now) (g.D.Disk.directory c.args.disk.now) (named c.args.dirs.now).output (unread-placed before placed placed only (unread-still placed));
    }

use Rattle.std.proofs.Common.{◌∙◌, ap, refl, inl, inr}
use Rattle.desk_tasks.specs.declared.ending.DiskEnd.TheVariants as disk_end
use Rattle.desk_tasks.specs.declared.ending.Ending.TheVariants as ending
use Rattle.desk_folder.specs.declared.files.File.{File}
use Rattle.desk_tasks.specs.Reading.{IsUnread}
use Rattle.desk_tasks.specs.Runs.{world}
use Rattle.desk_words.specs.Asked.{named}
use Rattle.story_commands.specs.Journal.{OnlyOpens}
use Rattle.desk_top.specs.Store.{HoldsAll, StandsAlways}
use Rattle.desk_top.proofs.StoreLaws.{shown-same}
use Rattle.desk_top.proofs.StorePlaced.{kept-disked, kept-undisked, kept-unremembered, at_most, risen, unshown-placed, named-there, not-placed, never-began, eight-only, still, opens-placed, always-placed, all-placed, shown-placed, pending-placed, shown-failed, disk-named, holds-unnamed, unread-still}
use Rattle.desk_top.proofs.desk.run_on_disk.Goals as goal

pub run_store-requires : goal.run_store-requires
run_store-requires g c = record { nothing_pending = pending-placed (g.D.Disk.shown c.args.disk.now) (g.D.Disk.shown c.place.new.self) c.in-Ok.field-0 c.requires.nothing_pending (rw c.in-Ok.is at c.place.ensures.stays) }

pub returns-in-Ok : goal.returns-in-Ok
returns-in-Ok g c =
    let shown = g.D.Disk.shown c.args.disk.now in
    let mid = g.D.Disk.shown c.place.new.self in
    let told = g.D.Disk.shown c.run_store.new.disk in
    let stays = c.in-Ok.ensures.stays in
    let counts = c.in-Ok.ensures.counts in
    let before = world (g.F.Folder.outside c.args.folder.now) (g.O.Sink.report c.args.out.now) in
    let now = world (g.F.Folder.outside c.run_store.new.folder) (g.O.Sink.report c.run_store.new.out) in
    let faults = g.D.Disk.faults c.args.disk.now in
    let placed = g.D.Disk.faults c.place.new.self in
    let later = g.D.Disk.faults c.run_store.new.disk in
    record {
      promise = kept-disked before now faults placed later shown mid told c.run_store.result c.in-Ok.field-0 counts.kept c.requires.nothing_pending stays c.run_store.ensures.promise;
      stored = λ x tells began. shown-placed shown mid told c.in-Ok.field-0 (HoldsAll x) c.requires.nothing_pending stays (all-placed x) (c.run_store.ensures.stored x tells began);
      untouched = λ x tells. shown-placed shown mid told c.in-Ok.field-0 (StandsAlways x) c.requires.nothing_pending stays (always-placed x) (c.run_store.ensures.untouched x tells);
      unasked = λ x tells r is. inr (ap g.D.Disk.shown (c.run_store.ensures.unasked x tells r is) ∙ stays);
      refused = λ three. shown-placed shown mid told c.in-Ok.field-0 OnlyOpens c.requires.nothing_pending stays opens-placed (c.run_store.ensures.refused three);
      failed = λ eight. risen faults placed later counts.kept (c.run_store.ensures.failed eight);
      kept = at_most faults placed later counts.kept c.run_store.ensures.kept;
      unshown = λ none. c.run_store.ensures.unshown (unshown-placed shown mid stays none);
      directory = λ at. named-there (g.D.Disk.directory c.args.disk.now) (g.D.Disk.directory c.place.new.self) (g.D.Disk.directory c.run_store.new.disk) (named c.args.dirs.now).output c.in-Ok.ensures.names c.run_store.ensures.directory;
      unread = disk-named ((f : File) → IsUnread before.folder now.folder f) (g.D.Disk.directory c.args.disk.now) (g.D.Disk.directory c.place.new.self) (g.D.Disk.directory c.run_store.new.disk) (named c.args.dirs.now).output c.in-Ok.ensures.names c.run_store.ensures.directory;
    }

pub returns-in-Err-Failed : goal.returns-in-Err-Failed
returns-in-Err-Failed g c =
    let before = world (g.F.Folder.outside c.args.folder.now) (g.O.Sink.report c.args.out.now) in
    let sink = g.O.Sink.report c.args.out.now in
    let now = g.O.Sink.report c.tell.new.out in
    let shown = g.D.Disk.shown c.args.disk.now in
    let mid = g.D.Disk.shown c.place.new.self in
    let code = c.tell.result in
    let given = c.tell.ensures in
    let how = ending.OnDisk disk_end.Fault in
    let failed = rw c.in-Err-Failed.field-0-is at c.in-Err-Failed.ensures in
    record {
      promise = kept-undisked before now (g.D.Disk.faults c.args.disk.now) (g.D.Disk.faults c.place.new.self) shown mid code (failed.counts.rose refl) failed.stays given;
      stored = λ x tells began. absurd (never-began before.folder before.folder sink now how given.answer code (still before.folder) given.status (inr (inr refl)) began);
      untouched = λ x tells. shown-failed shown mid (StandsAlways x) c.requires.nothing_pending failed.stays (λ was now opens. inl opens);
      unasked = λ x tells r is. inr failed.stays;
      refused = λ three. shown-failed shown mid OnlyOpens c.requires.nothing_pending failed.stays (λ was now opens. opens);
      failed = λ eight. failed.counts.rose refl;
      kept = failed.counts.kept;
      unshown = λ none. unshown-placed shown mid failed.stays none;
      directory = λ at. absurd (not-placed how given.answer code given.status (inr (inr refl)) at);
      unread = holds-unnamed (g.D.Disk.directory c.args.disk.now) (g.D.Disk.directory c.place.new.self) (named c.args.dirs.now).output (unread-still before.folder);
    }

pub returns-in-Err-Memory : goal.returns-in-Err-Memory
returns-in-Err-Memory g c =
    let before = world (g.F.Folder.outside c.args.folder.now) (g.O.Sink.report c.args.out.now) in
    let sink = g.O.Sink.report c.args.out.now in
    let now = g.O.Sink.report c.tell-in-Err-Memory.new.out in
    let shown = g.D.Disk.shown c.args.disk.now in
    let mid = g.D.Disk.shown c.place.new.self in
    let code = c.tell-in-Err-Memory.result in
    let given = c.tell-in-Err-Memory.ensures in
    let memory = rw c.in-Err-Memory.field-0-is at c.in-Err-Memory.ensures in
    record {
      promise = kept-unremembered before now (g.D.Disk.faults c.args.disk.now) (g.D.Disk.faults c.place.new.self) shown mid code given;
      stored = λ x tells began. absurd (never-began before.folder before.folder sink now ending.Memory given.answer code (still before.folder) given.status (inr (inl refl)) began);
      untouched = λ x tells. shown-same shown mid (StandsAlways x) memory.stays c.requires.nothing_pending (λ was opens. inl opens);
      unasked = λ x tells r is. inl memory.stays;
      refused = λ three. shown-same shown mid OnlyOpens memory.stays c.requires.nothing_pending (λ was opens. opens);
      failed = λ eight. absurd (eight-only ending.Memory given.answer code given.status (inr refl) eight);
      kept = memory.counts.kept;
      unshown = λ none. memory.stays ∙ none;
      directory = λ at. absurd (not-placed ending.Memory given.answer code given.status (inr (inl refl)) at);
      unread = holds-unnamed (g.D.Disk.directory c.args.disk.now) (g.D.Disk.directory c.place.new.self) (named c.args.dirs.now).output (unread-still before.folder);
    }

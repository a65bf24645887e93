use Rattle.desk_tasks.specs.Runs.{world}
use Rattle.desk_top.proofs.StoreLaws.{store-runs, store-stored, store-always, store-refused, store-failed}
use Rattle.desk_top.proofs.store.run_store.Goals as goal

pub returns : goal.returns
returns g c =
    let before = world (g.F.Folder.outside c.args.folder.now) (g.O.Sink.report c.args.out.now) in
    let mid = world (g.F.Folder.outside c.obey_store-ending.new.folder) (g.O.Sink.report c.obey_store-ending.new.out) in
    let now = g.O.Sink.report c.tell.new.out in
    let shown = g.D.Disk.shown c.args.disk.now in
    let told = g.D.Disk.shown c.obey_store-ending.new.disk in
    let faults = g.D.Disk.faults c.args.disk.now in
    let later = g.D.Disk.faults c.obey_store-ending.new.disk in
    let how = c.obey_store-ending.result in
    let code = c.tell.result in
    let obeys = c.obey_store-ending.ensures.obeys in
    record {
      promise = store-runs before mid now shown told faults later how code obeys c.obey_store-ending.ensures.failed c.tell.ensures;
      stored = λ x tells began. store-stored before mid now shown told how code x tells obeys c.tell.ensures began;
      untouched = λ x tells. store-always before mid shown told how x c.requires.nothing_pending tells obeys;
      unasked = c.obey_store-ending.ensures.unasked;
      refused = λ three. store-refused before mid now shown told how code c.requires.nothing_pending obeys c.tell.ensures three;
      failed = λ eight. store-failed before mid now shown told faults later how code obeys c.obey_store-ending.ensures.failed c.tell.ensures eight;
      kept = c.obey_store-ending.ensures.kept;
      unshown = c.obey_store-ending.ensures.unshown;
      directory = c.obey_store-ending.ensures.directory;
    }

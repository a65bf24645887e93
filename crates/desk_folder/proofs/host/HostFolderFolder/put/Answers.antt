use Rattle.desk_folder.proofs.HostLemmas.{Puts-unshown}
use Rattle.desk_folder.proofs.host.HostFolderFolder.put.Goals as goal

pub returns-clause-puts : goal.returns-clause-puts
returns-clause-puts g c =
    let h = c.self.inside in
    let call = c.write_some-answer in
    let faults = c.counted.ensures in
    rw (← c.self.view_is, faults.same)
    (Puts-unshown _ h.turns h.next_faults h.put_faults c.counted.new.counts c.args.file c.args.piece.now call.result call.ensures faults.counts faults.others)

pub returns-clause-counted : goal.returns-clause-counted
returns-clause-counted g c = rw (← c.self.view_is, c.counted.ensures.same) c.counted.ensures.exact

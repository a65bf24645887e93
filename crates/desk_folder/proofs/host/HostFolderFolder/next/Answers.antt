use Rattle.desk_folder.proofs.HostLemmas.{Takes-unshown}
use Rattle.desk_folder.proofs.host.HostFolderFolder.next.Goals as goal

pub returns-clause-takes : goal.returns-clause-takes
returns-clause-takes g c =
    let h = c.self.inside in
    let call = c.read_some-answer in
    let faults = c.counted.ensures in
    rw (← c.self.view_is, faults.same)
    (Takes-unshown _ h.turns c.raise.new.counts h.next_faults c.counted.new.counts h.put_faults c.args.file call.new.into call.result call.ensures c.raise.ensures.raised c.raise.ensures.others faults.counts faults.others)

pub returns-clause-counted : goal.returns-clause-counted
returns-clause-counted g c = rw (← c.self.view_is, c.counted.ensures.same) c.counted.ensures.exact

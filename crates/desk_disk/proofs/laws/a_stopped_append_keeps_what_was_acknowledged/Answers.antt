use Rattle.desk_disk.proofs.Storing.{stopped_is, acknowledged_is}
use Rattle.desk_disk.proofs.laws.a_stopped_append_keeps_what_was_acknowledged.Goals as goal

pub returns : goal.returns
returns c = record { stopped = stopped_is; acknowledged = acknowledged_is }

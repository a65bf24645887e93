use Rattle.desk_disk.proofs.Unique.{opened_undamaged}
use Rattle.desk_disk.proofs.laws.opened_files_are_not_damaged.Goals as goal

pub returns : goal.returns
returns g c = λ rules. opened_undamaged (g.R.PayloadReader.accepts rules)

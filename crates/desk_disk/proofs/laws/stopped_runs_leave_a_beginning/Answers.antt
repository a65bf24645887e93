use Rattle.desk_disk.proofs.Stopped.{leave_first, leave_undamaged}
use Rattle.desk_disk.proofs.laws.stopped_runs_leave_a_beginning.Goals as goal

pub returns : goal.returns
returns g c = record { beginning = leave_first; undamaged = λ rules. leave_undamaged (g.R.PayloadReader.accepts rules) }

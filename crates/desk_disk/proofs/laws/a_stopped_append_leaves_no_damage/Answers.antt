use Rattle.desk_disk.proofs.Storing.{stopped_undamaged}
use Rattle.desk_disk.proofs.laws.a_stopped_append_leaves_no_damage.Goals as goal

pub returns : goal.returns
returns g c = λ rules ps qs p c k. stopped_undamaged (g.R.PayloadReader.accepts rules) ps qs p c k

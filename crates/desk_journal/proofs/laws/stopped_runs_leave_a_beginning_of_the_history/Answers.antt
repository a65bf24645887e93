use Rattle.desk_journal.proofs.StoreLaws.{runs_first, runs_undamaged}
use Rattle.desk_journal.proofs.laws.stopped_runs_leave_a_beginning_of_the_history.Goals as goal

pub returns : goal.returns
returns c = record { beginning = runs_first; undamaged = runs_undamaged }

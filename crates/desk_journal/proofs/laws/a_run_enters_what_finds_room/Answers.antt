use Rattle.desk_journal.proofs.EnteredLaws.{run_enters_all}
use Rattle.desk_journal.proofs.laws.a_run_enters_what_finds_room.Goals as goal

pub returns : goal.returns
returns c = run_enters_all

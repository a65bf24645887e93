use Rattle.desk_journal.proofs.Moves.{spelled_again, spelled_takes}
use Rattle.desk_journal.proofs.spelling_laws.what_is_spelled_is_read.Goals as goal

pub returns : goal.returns
returns c = record { again = spelled_again; takes = λ bytes s fits e. spelled_takes bytes s fits e }

use Rattle.near_moves.proofs.DropLaws.{runs-hold, runs-each, drops-hold, drops-each}
use Rattle.near_moves.proofs.drops.runs_are_dropped_where_they_come_round.Goals as goal

pub returns : goal.returns
returns c = record { runs = λ I P x k. (runs-hold I P x k, runs-each I P x k); moves = λ I P x steps. (drops-hold I P x steps, drops-each I P x steps) }

use Rattle.near_moves.specs.Near.{near}
use Rattle.near_moves.specs.Descent.{is_better}
use Rattle.near_moves.proofs.DescentLaws.{accepted-better, find-first}
use Rattle.near_moves.proofs.descents.a_proposal_is_accepted_exactly_where_it_is_better.Goals as goal

pub returns : goal.returns
returns c = record { accepted = accepted-better; first = λ I P. find-first (is_better I P) (near I P) }

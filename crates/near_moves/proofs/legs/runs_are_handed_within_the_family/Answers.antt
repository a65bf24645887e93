use Rattle.near_moves.proofs.UnitLaws.{hands-hold, hands-each}
use Rattle.near_moves.proofs.legs.runs_are_handed_within_the_family.Goals as goal

pub returns : goal.returns
returns c = λ I P u. (hands-hold I P u, hands-each I P u)

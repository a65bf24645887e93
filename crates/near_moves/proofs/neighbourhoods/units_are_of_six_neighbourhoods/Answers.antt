use Rattle.near_moves.proofs.FamilyLaws.{units-hold, units-each}
use Rattle.near_moves.proofs.neighbourhoods.units_are_of_six_neighbourhoods.Goals as goal

pub returns : goal.returns
returns c = λ I P u. (units-hold I P u, units-each I P u)

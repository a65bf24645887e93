use Rattle.near_moves.proofs.StepLaws.{retimings-hold, retimings-each}
use Rattle.near_moves.proofs.neighbourhoods.legs_are_retimed_to_other_departures.Goals as goal

pub returns : goal.returns
returns c = λ I P x p d steps flown. (retimings-hold I P x p d steps flown, retimings-each I P x p d steps flown)

use Rattle.near_moves.proofs.StepLaws.{handing-holds, handing-each}
use Rattle.near_moves.proofs.neighbourhoods.runs_are_handed_on_at_their_times.Goals as goal

pub returns : goal.returns
returns c = λ I P x k p q d steps flown. (handing-holds I P x k p q d steps flown, handing-each I P x k p q d steps flown)

use Rattle.near_moves.proofs.AimLaws.{portions-hold, portions-each, portions-descend}
use Rattle.near_moves.proofs.neighbourhoods.all_or_a_power_of_two_may_go.Goals as goal

pub returns : goal.returns
returns c = record { numbers = λ n k most. (portions-hold n k, portions-each n k most); order = portions-descend }

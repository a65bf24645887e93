use Rattle.near_moves.proofs.FromLaws.{run-holds, run-from}
use Rattle.near_moves.proofs.legs.runs_are_of_movable_legs.Goals as goal

pub returns : goal.returns
returns c = λ I P x k. (run-holds I P x k, run-from I P x k)

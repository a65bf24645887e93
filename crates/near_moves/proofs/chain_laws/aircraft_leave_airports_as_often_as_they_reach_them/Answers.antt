use Rattle.near_moves.proofs.ChainLaws.{airports-balance}
use Rattle.near_moves.proofs.chain_laws.aircraft_leave_airports_as_often_as_they_reach_them.Goals as goal

pub returns : goal.returns
returns c = λ I P p a keeps air. airports-balance I P p a keeps air

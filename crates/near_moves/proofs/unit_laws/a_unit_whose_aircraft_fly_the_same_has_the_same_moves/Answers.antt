use Rattle.near_moves.proofs.MoveLaws.{moves-same}
use Rattle.near_moves.proofs.unit_laws.a_unit_whose_aircraft_fly_the_same_has_the_same_moves.Goals as goal

pub returns : goal.returns
returns c = moves-same

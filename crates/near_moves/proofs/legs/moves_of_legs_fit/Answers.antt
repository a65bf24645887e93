use Rattle.near_moves.proofs.UnitLaws.{moves_of_legs-fit}
use Rattle.near_moves.proofs.legs.moves_of_legs_fit.Goals as goal

pub returns : goal.returns
returns c = moves_of_legs-fit

use Rattle.near_moves.proofs.SplitLaws.{moves-split}
use Rattle.near_moves.proofs.unit_laws.a_move_begins_with_steps_of_its_own_legs.Goals as goal

pub returns : goal.returns
returns c = moves-split

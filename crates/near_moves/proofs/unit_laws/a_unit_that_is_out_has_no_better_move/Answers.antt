use Rattle.near_moves.proofs.OutLaws.{unit-worse}
use Rattle.near_moves.proofs.unit_laws.a_unit_that_is_out_has_no_better_move.Goals as goal

pub returns : goal.returns
returns c = unit-worse

use Rattle.near_moves.proofs.VainLaws.{handed-stays}
use Rattle.near_moves.proofs.unit_laws.a_run_that_is_handed_on_in_vain_stays_so.Goals as goal

pub returns : goal.returns
returns c = handed-stays

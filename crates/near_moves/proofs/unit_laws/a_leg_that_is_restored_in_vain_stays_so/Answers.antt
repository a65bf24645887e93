use Rattle.near_moves.proofs.VainLaws.{restored-stays}
use Rattle.near_moves.proofs.unit_laws.a_leg_that_is_restored_in_vain_stays_so.Goals as goal

pub returns : goal.returns
returns c = restored-stays

use Rattle.near_moves.proofs.RestoreLaws.{restored_in_vain}
use Rattle.near_moves.proofs.chain_laws.a_leg_that_leaves_elsewhere_is_restored_in_vain.Goals as goal

pub returns : goal.returns
returns c = restored_in_vain

use Rattle.near_moves.proofs.HandLaws.{handed_unit_in_vain}
use Rattle.near_moves.proofs.chain_laws.a_run_that_leads_elsewhere_is_handed_on_in_vain.Goals as goal

pub returns : goal.returns
returns c = handed_unit_in_vain

use Rattle.near_moves.proofs.SwapLaws.{swapped_in_vain}
use Rattle.near_moves.proofs.chain_laws.aircraft_that_stand_apart_exchange_legs_in_vain.Goals as goal

pub returns : goal.returns
returns c = swapped_in_vain

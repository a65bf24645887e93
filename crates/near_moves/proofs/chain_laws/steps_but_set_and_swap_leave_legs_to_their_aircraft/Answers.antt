use Rattle.near_moves.proofs.KeptLaws.{kept-flies}
use Rattle.near_moves.proofs.chain_laws.steps_but_set_and_swap_leave_legs_to_their_aircraft.Goals as goal

pub returns : goal.returns
returns c = kept-flies

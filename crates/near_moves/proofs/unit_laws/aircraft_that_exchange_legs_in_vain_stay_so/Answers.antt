use Rattle.near_moves.proofs.VainLaws.{swapped-stays}
use Rattle.near_moves.proofs.unit_laws.aircraft_that_exchange_legs_in_vain_stay_so.Goals as goal

pub returns : goal.returns
returns c = swapped-stays

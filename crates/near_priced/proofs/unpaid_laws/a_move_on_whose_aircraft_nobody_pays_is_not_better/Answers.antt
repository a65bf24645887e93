use Rattle.near_priced.proofs.UnpaidLaws.{unpaid-worse}
use Rattle.near_priced.proofs.unpaid_laws.a_move_on_whose_aircraft_nobody_pays_is_not_better.Goals as goal

pub returns : goal.returns
returns c = unpaid-worse

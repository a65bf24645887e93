use Rattle.near_dear.proofs.FlyLaws.{exchange-flying}
use Rattle.near_dear.proofs.exchange_laws.an_exchange_costs_what_each_pays_for_the_legs_of_the_other.Goals as goal

pub returns : goal.returns
returns c = exchange-flying

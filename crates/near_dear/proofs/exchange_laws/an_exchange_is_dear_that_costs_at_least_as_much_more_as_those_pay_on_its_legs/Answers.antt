use Rattle.near_dear.proofs.DearExchangeLaws.{exchange-dear}
use Rattle.near_dear.proofs.exchange_laws.an_exchange_is_dear_that_costs_at_least_as_much_more_as_those_pay_on_its_legs.Goals as goal

pub returns : goal.returns
returns c = exchange-dear

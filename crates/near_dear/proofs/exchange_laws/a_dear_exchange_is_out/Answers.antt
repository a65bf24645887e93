use Rattle.near_dear.proofs.TimeLaws.{known-exchange, exchange-out, exchange-worse}
use Rattle.near_dear.proofs.exchange_laws.a_dear_exchange_is_out.Goals as goal

pub returns : goal.returns
returns c = record { known = known-exchange; out = exchange-out; worse = exchange-worse }

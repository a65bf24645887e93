use Rattle.near_moves.proofs.StepLaws.{exchanges-hold, exchanges-each}
use Rattle.near_moves.proofs.neighbourhoods.aircraft_exchange_their_legs_at_departures.Goals as goal

pub returns : goal.returns
returns c = λ I P p q steps plan. (exchanges-hold I P p q steps, exchanges-each I P p q steps plan)

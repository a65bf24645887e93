use Rattle.near_moves.proofs.MomentLaws.{moments-hold, moments-each, moments-ordered}
use Rattle.near_moves.proofs.legs.moments_of_an_exchange_are_departures_in_order.Goals as goal

pub returns : goal.returns
returns c = record { moments = λ I P p q t plan. (moments-hold I P p q t, moments-each I P p q t plan); order = moments-ordered }

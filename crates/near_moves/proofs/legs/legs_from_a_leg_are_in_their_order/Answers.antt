use Rattle.near_moves.proofs.FromLaws.{from-holds, from-each, from-ordered}
use Rattle.near_moves.proofs.legs.legs_from_a_leg_are_in_their_order.Goals as goal

pub returns : goal.returns
returns c = record { legs = λ I P x y within. (from-holds I P x y, from-each I P x y); order = from-ordered }

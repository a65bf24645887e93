use Rattle.near_moves.proofs.UnitLaws.{swaps-hold, swaps-each, swaps-ordered}
use Rattle.near_moves.proofs.legs.swaps_are_of_two_aircraft_of_a_family.Goals as goal

pub returns : goal.returns
returns c = record { units = λ I u. (swaps-hold I u, swaps-each I u); order = swaps-ordered }

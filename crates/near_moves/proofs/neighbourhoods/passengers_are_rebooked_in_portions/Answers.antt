use Rattle.near_moves.proofs.StepLaws.{rebookings-hold, rebookings-each}
use Rattle.near_moves.proofs.neighbourhoods.passengers_are_rebooked_in_portions.Goals as goal

pub returns : goal.returns
returns c = λ I P r path steps most. (rebookings-hold I P r path steps, rebookings-each I P r path steps most)

use Rattle.near_moves.proofs.AimLaws.{aims-hold, aims-each}
use Rattle.near_moves.proofs.neighbourhoods.passengers_go_to_routes_or_off_all_paths.Goals as goal

pub returns : goal.returns
returns c = λ I P r path. (aims-hold I P r path, aims-each I P r path)

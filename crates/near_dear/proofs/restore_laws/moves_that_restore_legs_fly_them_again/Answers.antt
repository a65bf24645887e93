use Rattle.near_dear.proofs.DearRestoreLaws.{alone-restores, both-restore}
use Rattle.near_dear.proofs.restore_laws.moves_that_restore_legs_fly_them_again.Goals as goal

pub returns : goal.returns
returns c = record { alone = alone-restores; both = both-restore }

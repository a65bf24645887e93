use Rattle.near_dear.proofs.DearRestoreLaws.{restore-dear, restore-out, restore-worse}
use Rattle.near_dear.proofs.restore_laws.a_dear_restore_is_out.Goals as goal

pub returns : goal.returns
returns c = record { known = restore-dear; out = restore-out; worse = restore-worse }

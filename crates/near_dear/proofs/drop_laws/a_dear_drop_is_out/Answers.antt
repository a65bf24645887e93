use Rattle.near_dear.proofs.DropLaws.{drop-dear, run-dear, run-out, run-worse}
use Rattle.near_dear.proofs.drop_laws.a_dear_drop_is_out.Goals as goal

pub returns : goal.returns
returns c = record { dear = drop-dear; run = run-dear; out = run-out; worse = run-worse }

use Rattle.near_moves.proofs.LegalLaws.{near-fit, descent-legal, recovery-legal}
use Rattle.near_moves.proofs.descents.descents_and_recoveries_are_legal.Goals as goal

pub returns : goal.returns
returns c = record { fit = near-fit; descent = descent-legal; recovery = recovery-legal }

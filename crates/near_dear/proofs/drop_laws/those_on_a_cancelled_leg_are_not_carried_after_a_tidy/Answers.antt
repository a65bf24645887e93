use Rattle.near_dear.proofs.OwedLaws.{tidy-owes}
use Rattle.near_dear.proofs.drop_laws.those_on_a_cancelled_leg_are_not_carried_after_a_tidy.Goals as goal

pub returns : goal.returns
returns c = tidy-owes

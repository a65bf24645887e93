use Rattle.near_moves.proofs.RebookingLaws.{rebookings-fit}
use Rattle.near_moves.proofs.passenger_laws.rebookings_near_a_plan_fit.Goals as goal

pub returns : goal.returns
returns c = rebookings-fit

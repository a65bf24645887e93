use Rattle.desk_data.proofs.OrderedLaws.{obeys_of_leg, obeys_of_hour, adds_orders}
use Rattle.desk_data.proofs.laws.later_orders_decide.Goals as goal

pub returns-clause-leg : goal.returns-clause-leg
returns-clause-leg c = obeys_of_leg

pub returns-clause-hour : goal.returns-clause-hour
returns-clause-hour c = obeys_of_hour

pub returns-clause-batch : goal.returns-clause-batch
returns-clause-batch c = adds_orders

use Rattle.desk_tasks.proofs.FerryLaw.{ferried_is}
use Rattle.desk_tasks.proofs.laws.the_legs_that_are_added_are_ferried.Goals as goal

pub returns : goal.returns
returns c = ferried_is

use Rattle.desk_tasks.proofs.FerryLaw.{has-ferried}
use Rattle.desk_tasks.proofs.laws.plans_with_added_legs_carry_the_headline.Goals as goal

pub returns : goal.returns
returns c = has-ferried

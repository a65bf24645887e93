use Rattle.crew_rules.proofs.LeastLaws.{least_first}
use Rattle.crew_rules.proofs.laws.the_first_broken_item_of_crews_is_reported.Goals as goal

pub returns : goal.returns
returns c = least_first

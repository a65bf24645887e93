use Rattle.added_legs.proofs.EmptyLaws.{same_least, same_cost}
use Rattle.added_legs.proofs.laws.a_list_of_no_added_legs_is_the_plan.Goals as goal

pub returns : goal.returns
returns c = record { least = same_least; cost = same_cost }

use Rattle.desk_data.proofs.AsOrderedLaws.{as_ordered}
use Rattle.desk_data.proofs.laws.days_of_which_nothing_has_left_are_as_ordered.Goals as goal

pub returns : goal.returns
returns c = as_ordered

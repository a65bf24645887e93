use Rattle.desk_rules.proofs.LeastLaws.{least-holds}
use Rattle.desk_rules.proofs.laws.the_first_broken_item_is_reported.Goals as goal

pub returns : goal.returns
returns c = least-holds

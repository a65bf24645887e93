use Rattle.desk_rules.proofs.OrderLaws.{items-ascend}
use Rattle.desk_rules.proofs.laws.the_items_are_in_order.Goals as goal

pub returns : goal.returns
returns c = items-ascend

use Rattle.desk_rules.proofs.CostLaws.{cost-lt}
use Rattle.desk_rules.proofs.laws.costs_are_below_ten_to_the_38.Goals as goal

pub returns : goal.returns
returns c = cost-lt

use Rattle.desk_rules.proofs.LeastLaws.{feasible-holds, feasible-from}
use Rattle.desk_rules.proofs.laws.feasible_plans_meet_the_rules.Goals as goal

pub returns : goal.returns
returns c = record { meets = feasible-holds; only = feasible-from }

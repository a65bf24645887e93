use Rattle.added_legs.proofs.FerriedLaws.{each_pays, none_left}
use Rattle.added_legs.proofs.laws.each_added_leg_lowers_the_cost_and_breaks_no_rule.Goals as goal

pub returns : goal.returns
returns c = record { each = each_pays; done = none_left }

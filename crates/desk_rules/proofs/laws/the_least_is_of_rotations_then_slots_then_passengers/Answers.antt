use Rattle.desk_rules.proofs.LeastLaws.{least-split}
use Rattle.desk_rules.proofs.laws.the_least_is_of_rotations_then_slots_then_passengers.Goals as goal

pub returns : goal.returns
returns c = least-split

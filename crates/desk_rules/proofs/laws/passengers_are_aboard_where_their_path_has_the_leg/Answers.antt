use Rattle.desk_rules.proofs.BookedLaws.{takes-holds, takes-from}
use Rattle.desk_rules.proofs.laws.passengers_are_aboard_where_their_path_has_the_leg.Goals as goal

pub returns : goal.returns
returns c path x cabin = (takes-holds x cabin path, takes-from x cabin path)

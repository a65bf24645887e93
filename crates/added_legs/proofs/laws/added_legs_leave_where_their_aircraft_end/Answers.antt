use Rattle.added_legs.proofs.AddedEndLaws.{is_beside}
use Rattle.added_legs.proofs.laws.added_legs_leave_where_their_aircraft_end.Goals as goal

pub returns : goal.returns
returns c = is_beside

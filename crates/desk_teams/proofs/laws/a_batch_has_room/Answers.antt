use Rattle.desk_teams.proofs.RoomLaws.{batch-room}
use Rattle.desk_teams.proofs.laws.a_batch_has_room.Goals as goal

pub returns : goal.returns
returns c = batch-room

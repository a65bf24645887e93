use Rattle.desk_teams.proofs.RoomLaws.{few-entries}
use Rattle.desk_teams.proofs.laws.a_legal_history_has_few_proposals.Goals as goal

pub returns : goal.returns
returns c = few-entries

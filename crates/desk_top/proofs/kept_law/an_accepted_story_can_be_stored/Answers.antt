use Rattle.desk_top.proofs.Few.{kept_few}
use Rattle.desk_top.proofs.Kept.{kept_stored}
use Rattle.desk_top.proofs.kept_law.an_accepted_story_can_be_stored.Goals as goal

pub returns : goal.returns
returns c = record { can = kept_stored; few = kept_few }

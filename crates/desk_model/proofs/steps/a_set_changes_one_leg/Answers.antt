use Rattle.desk_model.proofs.SetLaws.{after_set-sets}
use Rattle.desk_model.proofs.steps.a_set_changes_one_leg.Goals as goal

pub returns : goal.returns
returns c = after_set-sets

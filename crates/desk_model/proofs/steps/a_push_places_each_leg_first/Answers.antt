use Rattle.desk_model.proofs.PushLaws.{after_push-places}
use Rattle.desk_model.proofs.steps.a_push_places_each_leg_first.Goals as goal

pub returns : goal.returns
returns c = after_push-places

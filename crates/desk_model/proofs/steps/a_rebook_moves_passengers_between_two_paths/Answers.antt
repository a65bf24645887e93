use Rattle.desk_model.proofs.GroupPlans.{after_rebook-rebooks, after_rebook-same, after_rebook-none}
use Rattle.desk_model.proofs.steps.a_rebook_moves_passengers_between_two_paths.Goals as goal

pub returns : goal.returns
returns c = record { passengers = after_rebook-rebooks; same = after_rebook-same; nobody = after_rebook-none }

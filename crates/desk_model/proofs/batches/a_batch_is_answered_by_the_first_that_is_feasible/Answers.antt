use Rattle.desk_model.proofs.BatchLaws.{answers_batch}
use Rattle.desk_model.proofs.batches.a_batch_is_answered_by_the_first_that_is_feasible.Goals as goal

pub returns : goal.returns
returns c = answers_batch

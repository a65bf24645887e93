use Rattle.desk_tasks.proofs.HeadlineLaw.{one-work}
use Rattle.desk_tasks.proofs.laws.tasks_come_to_one_outcome.Goals as goal

pub returns : goal.returns
returns c = record {
  work = λ task work other sound alone is same. (one-work task work other sound alone is same).0;
  outcome = λ task work sound alone is. (one-work task work work sound alone is is).1;
}

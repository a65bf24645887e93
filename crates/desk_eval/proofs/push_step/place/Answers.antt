use Rattle.desk_eval.proofs.BackLaws.{after-itself}
use Rattle.desk_eval.proofs.push_step.place.Goals as goal

pub returns-in-None-clause-after : goal.returns-in-None-clause-after
returns-in-None-clause-after c = after-itself 1 c.args.eval.now

use Rattle.desk_eval.proofs.BackLaws.{after-itself}
use Rattle.desk_eval.proofs.set_step.set_step.Goals as goal

pub returns-else-is_row-clause-after : goal.returns-else-is_row-clause-after
returns-else-is_row-clause-after c = after-itself 100000 c.args.eval.now

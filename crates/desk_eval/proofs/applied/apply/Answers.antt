use Rattle.std.proofs.Common.{ap, ◌∙◌}
use Rattle.desk_model.specs.Steps.{after_steps, after_move}
use Rattle.desk_eval.proofs.applied.apply.Goals as goal

pub returns-in-Ok-clause-rows : goal.returns-in-Ok-clause-rows
unfolding after_move
returns-in-Ok-clause-rows c = c.in-Ok.ensures.rows ∙ ap (after_steps c.args.eval.now.inst c.args.eval.now.rows) c.as_slice.ensures

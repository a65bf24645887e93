use Rattle.desk_journal.proofs.StepLemmas.{no_steps, first_step}
use Rattle.desk_journal.proofs.steps.steps_are_read_in_turn.Goals as goal

pub returns-clause-none : goal.returns-clause-none
returns-clause-none c = no_steps

pub returns-clause-first : goal.returns-clause-first
returns-clause-first c = first_step

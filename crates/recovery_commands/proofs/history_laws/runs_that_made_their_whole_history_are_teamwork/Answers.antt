use Rattle.recovery_commands.proofs.Running.{teamwork}
use Rattle.recovery_commands.proofs.history_laws.runs_that_made_their_whole_history_are_teamwork.Goals as goal

pub returns : goal.returns
returns c = teamwork

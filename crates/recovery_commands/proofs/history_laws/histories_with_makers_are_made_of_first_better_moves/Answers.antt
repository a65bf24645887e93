use Rattle.recovery_commands.proofs.Makers.{made_by_makers}
use Rattle.recovery_commands.proofs.history_laws.histories_with_makers_are_made_of_first_better_moves.Goals as goal

pub returns : goal.returns
returns c = made_by_makers

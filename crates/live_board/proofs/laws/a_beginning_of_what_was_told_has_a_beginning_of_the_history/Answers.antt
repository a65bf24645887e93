use Rattle.live_board.proofs.Tellings.{histories_begin, origin_same}
use Rattle.live_board.proofs.laws.a_beginning_of_what_was_told_has_a_beginning_of_the_history.Goals as goal

pub returns-clause-history : goal.returns-clause-history
returns-clause-history g c = histories_begin

pub returns-clause-origin : goal.returns-clause-origin
returns-clause-origin g c = origin_same

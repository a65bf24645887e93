use Rattle.near_moves.proofs.RowLaws.{first-break}
use Rattle.near_moves.proofs.row_laws.a_rule_of_rows_that_first_steps_break_stays_broken.Goals as goal

pub returns : goal.returns
returns c = first-break

use Rattle.near_moves.proofs.RowLaws.{steps-rows}
use Rattle.near_moves.proofs.row_laws.steps_of_passengers_leave_each_leg_its_row.Goals as goal

pub returns : goal.returns
returns c = steps-rows

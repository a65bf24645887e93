use Rattle.near_moves.proofs.RowLaws.{rows-break}
use Rattle.near_moves.proofs.row_laws.rules_of_legs_aircraft_and_hours_ask_rows_alone.Goals as goal

pub returns : goal.returns
returns c = rows-break

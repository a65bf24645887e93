use Rattle.desk_data.proofs.DepartureLaws.{due-fixed, due-valid}
use Rattle.desk_data.proofs.laws.fixed_legs_have_rows_due.Goals as goal

pub returns-clause-fixed : goal.returns-clause-fixed
returns-clause-fixed c = due-fixed

pub returns-clause-ranges : goal.returns-clause-ranges
returns-clause-ranges c = due-valid

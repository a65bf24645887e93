use Rattle.page_parts.proofs.RowLaws.{same_row-itself, same_row-one}
use Rattle.page_parts.proofs.change_laws.legs_are_told_where_rows_differ.Goals as goal

pub returns-clause-itself : goal.returns-clause-itself
returns-clause-itself c = same_row-itself

pub returns-clause-one : goal.returns-clause-one
returns-clause-one c = same_row-one

use Rattle.desk_data.specs.Situation.{legs_of}
use Rattle.file_joins.specs.Legs.{statement_of_legs}
use Rattle.file_joins.proofs.StatementLemmas.{AreAfter}
use Rattle.file_joins.proofs.legs.rows_stated.Given as goal

-- the rows after the lines so far
abbrev pub invariant-loop-line : goal.invariant-loop-line
invariant-loop-line l = AreAfter (statement_of_legs l.names) (legs_of l.names) l.lines l.line-index l.rows.items

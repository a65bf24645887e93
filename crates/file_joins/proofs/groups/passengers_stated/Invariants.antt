use Rattle.desk_data.specs.Situation.{reservations_of}
use Rattle.file_joins.specs.Groups.{statement_of_groups}
use Rattle.file_joins.proofs.StatementLemmas.{AreAfter}
use Rattle.file_joins.proofs.groups.passengers_stated.Given as goal

-- the passengers after the lines so far
abbrev pub invariant-loop-line : goal.invariant-loop-line
invariant-loop-line l = AreAfter (statement_of_groups l.names) (reservations_of l.names) l.lines l.line-index l.parties.items

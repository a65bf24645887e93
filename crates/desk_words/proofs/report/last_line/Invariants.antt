use Rattle.std.proofs.Common.{◌-◌, ◌≤◌}
use Rattle.desk_words.proofs.report.last_line.Given as goal

abbrev pub invariant-loop-at : goal.invariant-loop-at
invariant-loop-at l = record { line : l.line ≤ l.rest - 1; rest : l.rest ≤ l.at }

use Rattle.std.proofs.Common.{◌≡◌, ◌+◌, ◌≤◌, true, length}
use Rattle.std.specs.Prelude.{All}
use Rattle.desk_text.specs.Rows.{rows_of_lines, text_rows}
use Rattle.desk_text.proofs.FitLemmas.{lines_fit}
use Rattle.desk_text.proofs.RowLemmas.{prepended}
use Rattle.desk_text.proofs.rows.read_rows.Given as goal

-- the rows so far, and those of the lines that are left after them, are the rows of all
abbrev pub invariant-loop-line : goal.invariant-loop-line
invariant-loop-line g l = record {
  read : prepended l.rows.items (rows_of_lines (g.G.Grammar.row_of l.grammar) l.lines) ≡ text_rows l.limit (g.G.Grammar.row_of l.grammar) l.bytes;
  facts : All (λ row. g.G.Grammar.holds l.grammar row) l.rows.items;
  fit : l.fit ≡ true → lines_fit l.lines ≡ true;
  few : length l.rows.items + length l.lines ≤ length l.bytes;
}

abbrev pub decreases-loop-line : goal.decreases-loop-line
decreases-loop-line g l = length l.lines

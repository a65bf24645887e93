use Rattle.std.proofs.Common.{◌≡◌, ◌+◌, ◌≤◌, length}
use Rattle.std.specs.Prelude.{All}
use Rattle.desk_text.proofs.RowLemmas.{prepended}
use Rattle.comma_rows.specs.Records.{rows_from, comma_rows}
use Rattle.comma_rows.specs.Readers.{IsReading, records_left}
use Rattle.comma_rows.proofs.rows.read_records.Given as goal

-- the rows so far, and those of the records that are left after them, are the rows of all
abbrev pub invariant-loop-record : goal.invariant-loop-record
invariant-loop-record g l = record {
  reading : IsReading l.reader;
  read : prepended l.rows.items (rows_from (g.G.CommaGrammar.row_of l.grammar) (l.line + 1) (records_left l.reader)) ≡ comma_rows l.limit (g.G.CommaGrammar.row_of l.grammar) l.bytes;
  facts : All (λ row. g.G.CommaGrammar.holds l.grammar row) l.rows.items;
  few : l.line + length (records_left l.reader) ≤ l.limit + 1;
}

abbrev pub decreases-loop-record : goal.decreases-loop-record
decreases-loop-record g l = length (records_left l.reader)

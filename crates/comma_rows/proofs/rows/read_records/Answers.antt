use Rattle.std.proofs.Common.{◌+◌, length, ap, ◌∙◌, Vec, Global, arith}
use Rattle.std.proofs.lemmas.List.Elements.{All-push}
use Rattle.csv.specs.Records.{fields_of}
use Rattle.comma_rows.specs.Readers.{records_left}
use Rattle.comma_rows.specs.Records.{rows_from, comma_rows}
use Rattle.comma_rows.proofs.ReaderLemmas.{few_records}
use Rattle.comma_rows.proofs.RowLemmas.{begins, goes_on, stops, ended, too_long, short_enough}
use Rattle.comma_rows.proofs.rows.read_records.Goals as goal

pub returns-then-is_too_long-clause-exact : goal.returns-then-is_too_long-clause-exact
returns-then-is_too_long-clause-exact g c = rw c.at.ensures (too_long (g.G.CommaGrammar.row_of c.args.grammar.now) c.args.limit c.args.bytes.now c.if-is_too_long.true)

pub loop-record-init : goal.loop-record-init
loop-record-init g c = rw (c.new-rows.ensures.items, c.records_of-reader.ensures.exact) (record {
  reading = c.records_of-reader.ensures.reading;
  read = begins (rows_from (g.G.CommaGrammar.row_of c.args.grammar.now) 1 _) ∙ short_enough (g.G.CommaGrammar.row_of c.args.grammar.now) c.args.limit c.args.bytes.now c.if-is_too_long.false;
  facts = λ k d lt. absurd (omega arith);
  few = omega (arith, few_records c.args.bytes.now, c.if-is_too_long.false);
})

pub loop-record-preserved : goal.loop-record-preserved
loop-record-preserved g c =
    let next = rw c.if-branch.true at c.in_ok-read_next.ensures.exact in
    rw c.in_ok-push-in-Ok.ensures.items (record {
      reading = c.in_ok-read_next.ensures.reading c.if-branch.true;
      read = goes_on (g.G.CommaGrammar.row_of c.args.grammar.now) c.loop-record.rows.items (comma_rows c.args.limit (g.G.CommaGrammar.row_of c.args.grammar.now) c.args.bytes.now) (c.loop-record.line + 1) (fields_of c.read_next.new.into) (records_left c.read_next.new.reader) (records_left c.loop-record.reader) c.in-Ok.row next c.in-Ok.ensures.exact c.loop-record.invariant.read;
      facts = All-push (λ row. g.G.CommaGrammar.holds c.args.grammar.now row) c.loop-record.rows.items c.in-Ok.row c.loop-record.invariant.facts c.in-Ok.ensures.facts;
      few = omega (arith, c.loop-record.invariant.few, ap length next);
    })

pub returns-in-Err-clause-exact : goal.returns-in-Err-clause-exact
returns-in-Err-clause-exact g c =
    stops (g.G.CommaGrammar.row_of c.args.grammar.now) c.loop-record.rows.items (comma_rows c.args.limit (g.G.CommaGrammar.row_of c.args.grammar.now) c.args.bytes.now) {Answer = Vec g.row.Row.Denot Global} (λ rows. rows.items) (c.loop-record.line + 1) (fields_of c.read_next.new.into) (records_left c.read_next.new.reader) (records_left c.loop-record.reader) c.in-Err.fault c.at-in-Err.result
    (rw c.if-branch.true at c.in_ok-read_next.ensures.exact) c.in-Err.ensures.exact c.at-in-Err.ensures c.loop-record.invariant.read

pub returns-clause-exact : goal.returns-clause-exact
returns-clause-exact g c =
    ended (g.G.CommaGrammar.row_of c.args.grammar.now) c.loop-record.rows.items (comma_rows c.args.limit (g.G.CommaGrammar.row_of c.args.grammar.now) c.args.bytes.now) (c.loop-record.line + 1) (records_left c.loop-record.reader) (rw c.if-branch.false at c.in_ok-read_next.ensures.exact) c.loop-record.invariant.read

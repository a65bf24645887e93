use Rattle.std.proofs.Common.{[], ◌∷◌, length, sym, ap, ◌∙◌, Vec, Global, arith}
use Rattle.std.proofs.lemmas.List.Elements.{All-push}
use Rattle.desk_text.specs.Lines.{text_lines}
use Rattle.std.proofs.lemmas.List.{length-append}
use Rattle.desk_text.proofs.LineLemmas.{lines_few}
use Rattle.desk_text.proofs.FitLemmas.{text_fits, first_fits}
use Rattle.desk_text.proofs.RowLemmas.{goes_on, stops, ended, begins, too_long, short_enough}
use Rattle.desk_text.proofs.rows.read_rows.Goals as goal

pub returns-then-bytes-limit-clause-exact : goal.returns-then-bytes-limit-clause-exact
returns-then-bytes-limit-clause-exact g c = rw c.at.ensures (too_long (g.G.Grammar.row_of c.args.grammar.now) c.args.limit c.args.bytes.now c.if-bytes-limit.true)

pub loop-line-init : goal.loop-line-init
loop-line-init g c = rw (c.new-rows.ensures.items, c.of-lines.ensures.exact) (record {
  read = begins (g.G.Grammar.row_of c.args.grammar.now) (text_lines c.args.bytes.now) ∙ short_enough (g.G.Grammar.row_of c.args.grammar.now) c.args.limit c.args.bytes.now c.if-bytes-limit.false;
  facts = λ k d lt. absurd (omega arith);
  fit = λ is. text_fits 1 c.args.bytes.now (sym c.are_lines_of_text-fit.ensures ∙ is);
  few = omega (arith, lines_few 1 c.args.bytes.now);
})

pub line_row-requires : goal.line_row-requires
line_row-requires g c = λ is. (first_fits c.in-Some.line c.in-Some.text.now c.next.new.self c.loop-line.lines c.in-Some.ensures (c.loop-line.invariant.fit is)).0

pub loop-line-preserved : goal.loop-line-preserved
loop-line-preserved g c = rw c.in_ok-push-in-Ok.ensures.items (record {
  read = goes_on (g.G.Grammar.row_of c.args.grammar.now) c.loop-line.rows.items _ c.in-Some.line c.in-Some.text.now c.next.new.self c.loop-line.lines c.in-Ok.row c.in-Some.ensures c.in-Ok.ensures.exact c.loop-line.invariant.read;
  facts = All-push (λ row. g.G.Grammar.holds c.args.grammar.now row) c.loop-line.rows.items c.in-Ok.row c.loop-line.invariant.facts c.in-Ok.ensures.facts;
  fit = λ is. (first_fits c.in-Some.line c.in-Some.text.now c.next.new.self c.loop-line.lines c.in-Some.ensures (c.loop-line.invariant.fit is)).1;
  few = omega (arith, length-append c.loop-line.rows.items (c.in-Ok.row ∷ []), ap length c.in-Some.ensures);
})

pub returns-in-Err-clause-exact : goal.returns-in-Err-clause-exact
returns-in-Err-clause-exact g c = stops (g.G.Grammar.row_of c.args.grammar.now) c.loop-line.rows.items _ {Answer = Vec g.row.Row.Denot Global} (λ rows. rows.items) c.in-Some.line c.in-Some.text.now c.next.new.self c.loop-line.lines c.in-Err.fault c.at-in-Err.result c.in-Some.ensures c.in-Err.ensures.exact c.at-in-Err.ensures c.loop-line.invariant.read

pub returns-clause-exact : goal.returns-clause-exact
returns-clause-exact g c = ended (g.G.Grammar.row_of c.args.grammar.now) c.loop-line.rows.items _ c.loop-line.lines c.in_default.ensures.0 c.loop-line.invariant.read

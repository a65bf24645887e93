use Rattle.desk_text.proofs.LineLemmas.{lines_cut, lines_uncut, nothing_left}
use Rattle.desk_text.proofs.reading.first_line.Goals as goal

pub returns-in-Some-clause-exact : goal.returns-in-Some-clause-exact
returns-in-Some-clause-exact c = λ n. lines_cut n c.args.bytes.now c.in-Some.line.now c.in-Some.rest.now c.without_cr.result.now c.in-Some.ensures.exact c.without_cr.ensures

pub returns-in-None-clause-exact : goal.returns-in-None-clause-exact
returns-in-None-clause-exact c = λ n. lines_uncut n c.args.bytes.now c.without_cr-in-None.result.now _ c.in-None.ensures.exact c.without_cr-in-None.ensures (nothing_left c.args.bytes.now)

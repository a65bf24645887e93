use Rattle.std.proofs.Common.{◌+◌, sym, ◌∙◌}
use Rattle.desk_text.proofs.LineLemmas.{no_more_lines}
use Rattle.desk_text.proofs.reading.next_line.Goals as goal

pub returns-clause-exact : goal.returns-clause-exact
returns-clause-exact c = sym c.loop-rest.invariant.same ∙ no_more_lines (c.loop-rest.passed + 1) c.loop-rest.rest.now (sym c.is_empty.ensures ∙ c.loop-rest-test.false)

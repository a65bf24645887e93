use Rattle.std.proofs.Common.{sym, ◌∙◌}
use Rattle.desk_text.proofs.LineLemmas.{no_lines}
use Rattle.desk_text.proofs.reading.Lines.next.Goals as goal

pub returns-in-None : goal.returns-in-None
returns-in-None c = (sym c.self.view_is ∙ c.in-None.ensures.exact, no_lines _)

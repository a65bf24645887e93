use Rattle.std.proofs.Common.{arith}
use Rattle.std.proofs.lemmas.Grind.{common_steps}
use Rattle.desk_words.proofs.shown.push_lines.Goals as goal

pub loop-line-preserved : goal.loop-line-preserved
loop-line-preserved c = record { text = grind (arith, common_steps); shown = λ all. c.push_line.ensures.shown (c.loop-line.invariant.shown all) }

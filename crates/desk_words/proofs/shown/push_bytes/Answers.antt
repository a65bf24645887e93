use Rattle.std.proofs.Common.{arith}
use Rattle.std.proofs.lemmas.Grind.{common_steps}
use Rattle.desk_words.proofs.shown.push_bytes.Goals as goal

pub loop-byte-preserved : goal.loop-byte-preserved
loop-byte-preserved c = record { text = grind (arith, common_steps); shown = λ all. c.push_byte.ensures.shown (c.loop-byte.invariant.shown all) }

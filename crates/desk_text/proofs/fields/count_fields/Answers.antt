use Rattle.std.proofs.Common.{arith}
use Rattle.desk_text.proofs.CountLemmas.{beginnings_are_fields}
use Rattle.desk_text.proofs.fields.count_fields.Goals as goal

pub loop-byte-init : goal.loop-byte-init
loop-byte-init c = record { sum = omega (arith, beginnings_are_fields c.args.line.now c.requires); room = omega arith }

use Rattle.std.proofs.Common.{eqb}
use Rattle.desk_text.proofs.CutLemmas.{cut_at_place}
use Rattle.desk_text.proofs.reading.cut_line.Goals as goal

pub returns-clause-exact : goal.returns-clause-exact
returns-clause-exact c = cut_at_place (λ byte. eqb byte 10) c.in_ok-place.place c.args.bytes.now c.parts_at.result.0.now c.parts_at.result.1.now c.in_ok-place.ensures c.parts_at.ensures.front c.parts_at.ensures.back

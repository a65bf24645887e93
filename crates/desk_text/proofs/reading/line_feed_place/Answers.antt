use Rattle.std.proofs.Common.{eqb}
use Rattle.desk_text.proofs.CutLemmas.{first_is_position}
use Rattle.desk_text.proofs.reading.line_feed_place.Goals as goal

pub returns : goal.returns
returns c = first_is_position (λ byte. eqb byte 10) c.args.bytes.now c.memchr.result c.memchr.ensures

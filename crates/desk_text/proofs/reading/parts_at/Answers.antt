use Rattle.desk_text.proofs.CutLemmas.{after_place}
use Rattle.desk_text.proofs.reading.parts_at.Goals as goal

pub returns-clause-back : goal.returns-clause-back
returns-clause-back c = after_place c.args.place c.args.bytes.now c.split_at.result.1.now c.split_at.ensures.back

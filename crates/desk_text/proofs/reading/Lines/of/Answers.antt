use Rattle.desk_text.proofs.LineLemmas.{lines_few}
use Rattle.desk_text.proofs.reading.Lines.of.Goals as goal

pub returns-clause-few : goal.returns-clause-few
returns-clause-few c = lines_few _ c.args.bytes.now

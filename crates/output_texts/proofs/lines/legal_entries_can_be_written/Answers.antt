use Rattle.output_texts.proofs.WritableLaws.{legal-written}
use Rattle.output_texts.proofs.lines.legal_entries_can_be_written.Goals as goal

pub returns : goal.returns
returns c = legal-written

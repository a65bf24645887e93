use Rattle.desk_top.proofs.QuotedBack.{line_is_record}
use Rattle.desk_top.proofs.journal_law.lines_are_records.Goals as goal

pub returns : goal.returns
returns c = line_is_record

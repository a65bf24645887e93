use Rattle.desk_text.proofs.DateLemmas.{reads_back, two_digit_year}
use Rattle.desk_text.proofs.texts.written_days_read_back.Goals as goal

pub returns-clause-day : goal.returns-clause-day
returns-clause-day c = reads_back

pub returns-clause-year : goal.returns-clause-year
returns-clause-year c = two_digit_year

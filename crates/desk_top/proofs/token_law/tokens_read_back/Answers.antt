use Rattle.desk_top.proofs.Spelled.{number_back, date_back, time_back, name_back}
use Rattle.desk_top.proofs.token_law.tokens_read_back.Goals as goal

pub returns-clause-number : goal.returns-clause-number
returns-clause-number c = number_back

pub returns-clause-date : goal.returns-clause-date
returns-clause-date c = date_back

pub returns-clause-time : goal.returns-clause-time
returns-clause-time c = time_back

pub returns-clause-name : goal.returns-clause-name
returns-clause-name c = name_back

use Rattle.std.proofs.Common.{arith}
use Rattle.file_readers.proofs.FirstMoment.{first_after_is}
use Rattle.file_readers.proofs.flights.first_after.Goals as goal

pub returns-then-moment-same_day-clause-exact : goal.returns-then-moment-same_day-clause-exact
returns-then-moment-same_day-clause-exact c = first_after_is c.args.moment c.args.minute _ (omega arith) (omega arith) (omega arith)

pub returns-else-moment-same_day-clause-exact : goal.returns-else-moment-same_day-clause-exact
returns-else-moment-same_day-clause-exact c = first_after_is c.args.moment c.args.minute _ (omega arith) (omega arith) (omega arith)

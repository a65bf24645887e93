use Rattle.desk_tasks.proofs.HeadlineLaw.{has-recovered, has-tried}
use Rattle.desk_tasks.proofs.laws.recoveries_carry_the_headline.Goals as goal

pub returns : goal.returns
returns c = record { recovered = has-recovered; tried = has-tried }

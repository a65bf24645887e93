use Rattle.desk_tasks.proofs.HeadlineLaw.{has-team-recovered}
use Rattle.desk_tasks.proofs.laws.recoveries_by_teams_carry_the_headline.Goals as goal

pub returns : goal.returns
returns c = has-team-recovered

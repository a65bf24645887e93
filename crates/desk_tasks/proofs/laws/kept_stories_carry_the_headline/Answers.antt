use Rattle.desk_tasks.proofs.HeadlineLaw.{has-kept}
use Rattle.desk_tasks.proofs.laws.kept_stories_carry_the_headline.Goals as goal

pub returns : goal.returns
returns c = has-kept

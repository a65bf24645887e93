use Rattle.desk_tasks.proofs.HeadlineLaw.{has-crewed}
use Rattle.desk_tasks.proofs.laws.crewed_stories_carry_the_headline.Goals as goal

pub returns : goal.returns
returns c = has-crewed

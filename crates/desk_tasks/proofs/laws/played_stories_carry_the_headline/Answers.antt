use Rattle.desk_tasks.proofs.HeadlineLaw.{has-headline}
use Rattle.desk_tasks.proofs.laws.played_stories_carry_the_headline.Goals as goal

pub returns : goal.returns
returns c = has-headline

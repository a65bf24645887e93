use Rattle.story_commands.proofs.Exact.{undamaged, no_others}
use Rattle.story_commands.proofs.journal_laws.a_file_says_one_thing_of_a_story.Goals as goal

pub returns : goal.returns
returns c = record {
  damaged = undamaged;
  others = no_others;
  apart = λ k c line d o. undamaged k c o.records d o.held;
}

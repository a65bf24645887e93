use Rattle.story_commands.proofs.Continued.{passed_moments, passed_whole, opens_still}
use Rattle.story_commands.proofs.journal_laws.what_passed_the_comparison_the_next_run_opens.Goals as goal

pub returns : goal.returns
returns c = record { moments = passed_moments; whole = passed_whole; grows = opens_still }

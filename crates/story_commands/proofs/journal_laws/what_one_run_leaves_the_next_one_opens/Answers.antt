use Rattle.story_commands.proofs.Owned.{own_begins, own_opens, own_goes_on, own_kept}
use Rattle.story_commands.proofs.Continued.{own_grows}
use Rattle.story_commands.proofs.journal_laws.what_one_run_leaves_the_next_one_opens.Goals as goal

pub returns : goal.returns
returns c = record { begins = own_begins; opens = own_opens; goes_on = own_goes_on; whole = own_kept; grows = own_grows }

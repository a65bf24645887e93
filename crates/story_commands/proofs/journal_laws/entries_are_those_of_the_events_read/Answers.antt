use Rattle.std.proofs.Common.{ap, ◌∙◌}
use Rattle.desk_journal.proofs.StoreLaws.{stand_events}
use Rattle.story_commands.specs.Held.{entered}
use Rattle.story_commands.proofs.Spelled.{entered_either}
use Rattle.story_commands.proofs.journal_laws.entries_are_those_of_the_events_read.Goals as goal

pub returns : goal.returns
returns c = λ k records bytes few held.
    let found = stand_events k.story.day k.batches records held.each in
    (found.0, found.1, ap entered found.1 ∙ entered_either k.story.day k.batches found.0 few found.2)

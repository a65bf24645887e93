use Rattle.desk_journal.proofs.StoreLaws.{events_stand, stand_events}
use Rattle.desk_journal.proofs.laws.payloads_that_may_stand_are_of_events.Goals as goal

pub returns : goal.returns
returns c = record { stand = events_stand; events = stand_events }

use Rattle.desk_core.proofs.TurnedLaws.{desk_legal, turn_promises, turn_legal}
use Rattle.desk_core.proofs.turned.what_a_pass_has_seen_keeps_the_promises.Goals as goal

pub returns : goal.returns
returns c = record { desk = desk_legal; promises = turn_promises; turns = turn_legal }

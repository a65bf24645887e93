use Rattle.desk_data.proofs.LeavingLaws.{freezes_rows}
use Rattle.desk_data.proofs.PassengerLaws.{tallies_passengers}
use Rattle.desk_data.proofs.laws.batches_freeze_what_has_left.Goals as goal

pub returns-clause-rows : goal.returns-clause-rows
returns-clause-rows c = freezes_rows

pub returns-clause-passengers : goal.returns-clause-passengers
returns-clause-passengers c = tallies_passengers

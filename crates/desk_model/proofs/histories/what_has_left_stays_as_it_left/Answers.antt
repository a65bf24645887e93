use Rattle.desk_model.proofs.StatePlans.{frozen_stays, frozen_flies, carried_as_flown}
use Rattle.desk_model.proofs.histories.what_has_left_stays_as_it_left.Goals as goal

pub returns : goal.returns
returns c = record { stays = frozen_stays; flies = frozen_flies; passengers = carried_as_flown }

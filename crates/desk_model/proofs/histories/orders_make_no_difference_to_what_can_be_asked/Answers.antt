use Rattle.desk_model.proofs.HistoryLaws.{askable-parts}
use Rattle.desk_model.proofs.StatePlans.{askable_along}
use Rattle.desk_model.proofs.histories.orders_make_no_difference_to_what_can_be_asked.Goals as goal

pub returns : goal.returns
returns c = record { rows = askable-parts; states = askable_along }

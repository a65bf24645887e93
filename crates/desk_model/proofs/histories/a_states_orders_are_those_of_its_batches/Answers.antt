use Rattle.desk_model.proofs.StatePlans.{rows_of_state, orders_of_state, now_of_state, progress_of_state}
use Rattle.desk_model.proofs.histories.a_states_orders_are_those_of_its_batches.Goals as goal

pub returns : goal.returns
returns c = record { rows = rows_of_state; orders = orders_of_state; now = now_of_state; progress = progress_of_state }

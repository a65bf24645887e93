use Rattle.desk_model.proofs.StatePlans.{planned, unplanned}
use Rattle.desk_model.proofs.histories.a_state_has_a_plan_exactly_where_its_rows_are_feasible.Goals as goal

pub returns : goal.returns
returns c = record { planned = planned; unplanned = unplanned }

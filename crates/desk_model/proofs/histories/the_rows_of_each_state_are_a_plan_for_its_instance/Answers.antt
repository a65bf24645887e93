use Rattle.desk_model.proofs.StatePlans.{plans_of_history}
use Rattle.desk_model.proofs.histories.the_rows_of_each_state_are_a_plan_for_its_instance.Goals as goal

pub returns : goal.returns
returns c = plans_of_history

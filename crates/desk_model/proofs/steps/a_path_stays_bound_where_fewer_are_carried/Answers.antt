use Rattle.desk_data.proofs.BoundLaws.{bound-fewer}
use Rattle.desk_model.proofs.steps.a_path_stays_bound_where_fewer_are_carried.Goals as goal

pub returns : goal.returns
returns c = bound-fewer

use Rattle.desk_data.proofs.BoundLaws.{bound-holds, bound-from, bound-fewer}
use Rattle.desk_data.proofs.laws.paths_are_bound_to_what_has_left.Goals as goal

pub returns-clause-bound : goal.returns-clause-bound
returns-clause-bound c = λ I r groups path. (bound-holds I r groups path, bound-from I r groups path)

pub returns-clause-fewer : goal.returns-clause-fewer
returns-clause-fewer c = bound-fewer

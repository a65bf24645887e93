use Rattle.desk_pool.proofs.Gaining.{closes_name, closes_out}
use Rattle.desk_pool.proofs.laws.passes_that_came_back_leave_nothing_out.Goals as goal

pub returns-clause-name : goal.returns-clause-name
returns-clause-name c = closes_name

pub returns-clause-out : goal.returns-clause-out
returns-clause-out c = closes_out

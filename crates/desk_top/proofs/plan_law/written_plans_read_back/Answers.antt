use Rattle.desk_top.proofs.ReadBack.{reads_back}
use Rattle.desk_top.proofs.plan_law.written_plans_read_back.Goals as goal

pub returns : goal.returns
returns c = reads_back

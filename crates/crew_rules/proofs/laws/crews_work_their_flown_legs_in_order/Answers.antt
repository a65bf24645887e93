use Rattle.crew_rules.proofs.WorkedLaws.{are_worked}
use Rattle.crew_rules.proofs.laws.crews_work_their_flown_legs_in_order.Goals as goal

pub returns : goal.returns
returns c = are_worked

use Rattle.crew_rules.proofs.DutyLaws.{are_duties}
use Rattle.crew_rules.proofs.laws.a_rest_parts_duties.Goals as goal

pub returns : goal.returns
returns c = are_duties

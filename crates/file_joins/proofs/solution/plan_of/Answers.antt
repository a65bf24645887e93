use Rattle.file_joins.proofs.PlanLemmas.{stated_is_plan}
use Rattle.file_joins.proofs.solution.plan_of.Goals as goal

pub of-requires : goal.of-requires
of-requires c = (stated_is_plan c.args.inst.now c.args.legs.now c.args.groups.now _ c.requires c.in_ok-rows.ensures).sound

pub returns-clause-plan : goal.returns-clause-plan
returns-clause-plan c = rw c.of.ensures (stated_is_plan c.args.inst.now c.args.legs.now c.args.groups.now _ c.requires c.in_ok-rows.ensures)

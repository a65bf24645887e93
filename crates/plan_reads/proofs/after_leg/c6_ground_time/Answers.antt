use Rattle.std.proofs.Common.{◌∙◌}
use Rattle.plan_reads.proofs.AfterLegLaws.{keeps_c6-after}
use Rattle.plan_reads.proofs.after_leg.c6_ground_time.Goals as goal

pub returns-clause-plan : goal.returns-clause-plan
returns-clause-plan c = λ P is later. c.c6_ground_time_after.ensures ∙ keeps_c6-after c.args.inst.now P c.args.leg.0 c.args.before c.args.row is later

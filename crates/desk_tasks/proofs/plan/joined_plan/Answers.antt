use Rattle.std.proofs.Common.{ap, ◌∙◌}
use Rattle.desk_data.specs.Situation.{Situation}
use Rattle.desk_data.proofs.BatchLaws.{plan-parts}
use Rattle.desk_tasks.proofs.Batches.{batches-parts}
use Rattle.desk_tasks.proofs.plan.joined_plan.Goals as goal

-- the orders of the batches leave the rows of the day, and so a plan for it
pub returns-in-Ok-clause-plan : goal.returns-in-Ok-clause-plan
returns-in-Ok-clause-plan c =
    plan-parts c.in_ok-built.built.inst c.in-Ok.inst c.in_ok-plan.plan
    (ap (λ (I : Situation). I.parts) c.in-Ok.ensures ∙ batches-parts c.in_ok-built.built.inst c.in_ok-plan.plan c.as_slice.result.now) c.in_ok-plan.ensures.plan

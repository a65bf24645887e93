use Rattle.std.proofs.Common.{ap, sym, subst, ◌∙◌}
use Rattle.desk_data.specs.Situation.{Situation}
use Rattle.desk_data.specs.declared.parts.Parts.{Parts}
use Rattle.desk_data.proofs.BatchLaws.{plan-parts}
use Rattle.crew_rules.specs.Valid.{AreCrews}
use Rattle.desk_tasks.proofs.Batches.{batches-parts}
use Rattle.desk_tasks.proofs.crews.joined_plan_crews.Goals as goal

-- the orders of the batches leave the rows of the day, and so a plan for it and its crews
pub returns-in-Ok-clause-plan : goal.returns-in-Ok-clause-plan
returns-in-Ok-clause-plan c =
    let same = ap (λ (I : Situation). I.parts) c.in-Ok.ensures ∙ batches-parts c.in_ok-built.built.inst c.in_ok-plan.plan c.as_slice.result.now in
    record {
      plan = plan-parts c.in_ok-built.built.inst c.in-Ok.inst c.in_ok-plan.plan same c.in_ok-plan.ensures.plan;
      crews = subst (λ (D : Parts). AreCrews D c.in_ok-crews.crews.items) (sym same) c.in_ok-crews.ensures.facts;
    }

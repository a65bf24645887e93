use Rattle.std.proofs.Common.{◌≡◌, true, rules, ap, ◌∙◌}
use Rattle.desk_data.specs.Situation.{Situation}
use Rattle.desk_data.specs.PlanRows.{PlanRows}
use Rattle.desk_model.specs.Steps.{after_step}
use Rattle.step_laws.proofs.StepLaws.{after_steps-more}
use Rattle.near_draft.specs.Drafts.{plan_of}
use Rattle.near_draft.proofs.moves.take_steps.Goals as goal

pub loop-step-preserved : goal.loop-step-preserved
loop-step-preserved c =
    let D = c.args.draft.now in
    let F = c.loop-step.draft in
    let i = c.loop-step.step-index in
    let step = c.step-item.result in
    let yes : c.in_ok-take_step.field-0 ≡ true = search rules in
    record {
      plan = c.in_ok-take_step.ensures.taken yes
          ∙ ap (λ (I : Situation). after_step I (plan_of F) step) c.loop-step.invariant.inst
          ∙ ap (λ (Q : PlanRows). after_step D.inst Q step) c.loop-step.invariant.plan
          ∙ after_steps-more D.inst (plan_of D) c.args.steps.now i step c.loop-step-test.true c.step-item.is;
      inst = c.take_step.ensures.inst ∙ c.loop-step.invariant.inst;
      rows = c.take_step.ensures.rows ∙ c.loop-step.invariant.rows;
    }

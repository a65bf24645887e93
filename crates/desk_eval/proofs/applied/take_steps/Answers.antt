use Rattle.std.proofs.Common.{◌+◌, ◌*◌, ◌<◌, length, refl, ap, ◌∙◌, arith}
use Rattle.desk_data.specs.Situation.{Situation}
use Rattle.desk_data.specs.PlanRows.{PlanRows}
use Rattle.desk_model.specs.Steps.{after_step}
use Rattle.desk_eval.proofs.BackLaws.{after-itself, after-then}
use Rattle.step_laws.proofs.StepLaws.{after_steps-more}
use Rattle.desk_eval.proofs.applied.take_steps.Goals as goal

pub loop-step-init : goal.loop-step-init
loop-step-init c = record { rows = refl; after = after-itself 0 c.args.eval.now }

pub returns-in_err-take_step-clause-after : goal.returns-in_err-take_step-clause-after
returns-in_err-take_step-clause-after c =
    let few = c.requires.few in
    after-then (100000 * c.loop-step.step-index) 100000 1600000 c.args.eval.now c.loop-step.eval c.take_step.new.eval (omega (arith, few)) c.loop-step.invariant.after c.take_step.ensures.after

pub loop-step-preserved : goal.loop-step-preserved
loop-step-preserved c =
    let E = c.args.eval.now in
    let F = c.loop-step.eval in
    let i = c.loop-step.step-index in
    let step = c.step-item.result in
    let within : i < length c.args.steps.now = c.loop-step-test.true in
    record {
      rows = c.in_ok-take_step.ensures.rows
          ∙ ap (λ (I : Situation). after_step I F.rows step) c.loop-step.invariant.after.inst
          ∙ ap (λ (Q : PlanRows). after_step E.inst Q step) c.loop-step.invariant.rows
          ∙ after_steps-more E.inst E.rows c.args.steps.now i step within c.step-item.is;
      after = after-then (100000 * i) 100000 (100000 * (i + 1)) E F c.take_step.new.eval (omega arith) c.loop-step.invariant.after c.take_step.ensures.after;
    }

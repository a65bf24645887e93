use Rattle.std.proofs.Common.{sym, ap, subst, ◌∙◌}
use Rattle.desk_data.specs.Progress.{with_batch}
use Rattle.desk_data.specs.Situation.{Situation}
use Rattle.desk_data.specs.Valid.{IsPlanFor}
use Rattle.desk_data.proofs.BatchLaws.{with_batch-plan}
use Rattle.desk_core.proofs.TakenLaws.{batch_added, chosen_by, left_by}
use Rattle.desk_core.proofs.taken.take_in.Goals as goal

pub fallback-requires-clause-plan : goal.fallback-requires-clause-plan
fallback-requires-clause-plan c =
    let plan : IsPlanFor c.in_ok-inst.inst c.in_ok-plan.plan = rw (c.in_ok-inst.ensures, c.instance.ensures, c.in_ok-plan.ensures) c.plan-pages.ensures.valid in
    subst (λ (J : Situation). IsPlanFor J c.in_ok-plan.plan) (sym c.in_ok-add.ensures.ok) (with_batch-plan c.in_ok-inst.inst c.in_ok-plan.plan c.in_ok-plan.plan c.args.batch.now plan)

pub fallback-requires-clause-same : goal.fallback-requires-clause-same
fallback-requires-clause-same c = sym c.in_ok-plan.ensures

pub of_same_day-requires-clause-day : goal.of_same_day-requires-clause-day
of_same_day-requires-clause-day c = ap (λ (J : Situation). J.parts) (c.in_ok-add.ensures.ok ∙ ap (λ (J : Situation). with_batch J c.in_ok-plan.plan c.args.batch.now) (c.in_ok-inst.ensures ∙ c.instance.ensures))

pub of_same_day-requires-in-NoPlan-clause-day : goal.of_same_day-requires-in-NoPlan-clause-day
of_same_day-requires-in-NoPlan-clause-day c = ap (λ (J : Situation). J.parts) (c.in_ok-add.ensures.ok ∙ ap (λ (J : Situation). with_batch J c.in_ok-plan.plan c.args.batch.now) (c.in_ok-inst.ensures ∙ c.instance.ensures))

pub returns-in_ok-eval-in-Chosen : goal.returns-in_ok-eval-in-Chosen
returns-in_ok-eval-in-Chosen c =
    let B = c.args.batch.now in
    let rows = c.in_ok-plan.ensures ∙ c.plan-pages.ensures.rows in
    let inst = batch_added c.args.eval.now B c.in_ok-inst.inst c.add.new.self c.in_ok-plan.plan (c.in_ok-inst.ensures ∙ c.instance.ensures) rows c.in_ok-add.ensures.ok in
    rw c.cost-cost.ensures
    (chosen_by c.args.eval.now c.in_ok-eval-in-Chosen.eval B c.add.new.self c.in_ok-plan.plan c.in-Chosen.plan c.in-Chosen.which
    inst rows (sym c.in_ok-which.ensures.first ∙ c.in-Chosen.is) c.in_ok-eval-in-Chosen.ensures)

pub returns-in_ok-eval-in-NoPlan : goal.returns-in_ok-eval-in-NoPlan
returns-in_ok-eval-in-NoPlan c =
    let B = c.args.batch.now in
    let rows = c.in_ok-plan.ensures ∙ c.plan-pages.ensures.rows in
    let inst = batch_added c.args.eval.now B c.in_ok-inst.inst c.add.new.self c.in_ok-plan.plan (c.in_ok-inst.ensures ∙ c.instance.ensures) rows c.in_ok-add.ensures.ok in
    left_by c.args.eval.now c.in_ok-eval-in-NoPlan.eval B c.add.new.self c.in_ok-plan.plan c.in-NoPlan.plan c.in-NoPlan.broken
    inst rows (sym c.in_ok-which.ensures.first ∙ c.in-NoPlan.is) c.in_ok-eval-in-NoPlan.ensures

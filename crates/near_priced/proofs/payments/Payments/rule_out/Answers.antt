use Rattle.std.proofs.Common.{◌≡◌, ◌+◌, ◌≤◌, true, rules, sym, ap, subst, ◌∙◌, arith}
use Rattle.std.specs.Prelude.{sum_by}
use Rattle.std.specs.List.{list_all}
use Rattle.desk_units.specs.declared.numbers.Leg.{Leg}
use Rattle.desk_data.specs.Situation.{Situation}
use Rattle.desk_data.specs.PlanRows.{PlanRows}
use Rattle.desk_data.specs.Valid.{IsPlanFor}
use Rattle.near_draft.specs.Drafts.{AreAllChanged, plan_of}
use Rattle.near_draft.specs.Legs.{numbers_of}
use Rattle.near_priced.specs.Priced.{names_no_path}
use Rattle.near_priced.specs.Saved.{saved_on, tidies_once}
use Rattle.near_priced.specs.Tables.{amount, refill_amount}
use Rattle.near_priced.proofs.RuleOutLaws.{rule-out}
use Rattle.near_priced.proofs.OnceLaws.{save-out}
use Rattle.near_priced.proofs.payments.Payments.rule_out.Goals as goal

pub returns-then-pay_at_most : goal.returns-then-pay_at_most
returns-then-pay_at_most c = λ known feasible.
    (let I = c.args.inst.now in
    let P = c.args.plan.now in
    let D = c.args.draft.now in
    let m = c.args.m.now in
    let payments = c.args.self.now in
    let legs = c.in_ok-legs.legs.items in
    let dearer = c.in-Some-dearer_by.dearer in
    let all = c.as_slice-steps.ensures in
    let yes : c.name_no_path.result ≡ true = search rules in
    let named : list_all names_no_path m.steps ≡ true = ap (list_all names_no_path) (sym all) ∙ sym c.name_no_path.ensures ∙ yes in
    let plan : IsPlanFor I (plan_of D) = subst (λ (J : Situation). IsPlanFor J (plan_of D)) c.requires.draft.day c.base.ensures.plan in
    let changed : AreAllChanged P (plan_of D) (numbers_of legs) = subst (λ (R : PlanRows). AreAllChanged R (plan_of D) (numbers_of legs)) c.requires.draft.plan c.in_ok-legs.ensures.all in
    let costs = c.dearer_by.ensures dearer c.in-Some-dearer_by.is in
    let paid = c.pay_at_most.ensures c.if-pay_at_most.true in
    let on : sum_by (λ (leg : Leg). amount payments.on.items leg.0) c.as_slice.result.now ≡ sum_by (λ (leg : Leg). amount payments.on.items leg.0) legs = ap (sum_by (λ (leg : Leg). amount payments.on.items leg.0)) c.as_slice.ensures.value in
    let booked : sum_by (refill_amount payments.booked.items) c.as_slice-steps.result.now ≡ sum_by (refill_amount payments.booked.items) m.steps = ap (sum_by (refill_amount payments.booked.items)) all in
    let less : sum_by (λ (leg : Leg). amount payments.on.items leg.0) legs + sum_by (refill_amount payments.booked.items) m.steps ≤ dearer = omega (arith, paid, on, booked) in
    rule-out I P payments m D legs dearer c.parts-rows.ensures.valid plan c.requires.payments c.requires.draft named changed costs less feasible)

pub returns : goal.returns
returns c = λ known feasible.
    (let I = c.args.inst.now in
    let P = c.args.plan.now in
    let D = c.args.draft.now in
    let m = c.args.m.now in
    let payments = c.args.self.now in
    let legs = c.in_ok-legs.legs.items in
    let dearer = c.in-Some-dearer_by.dearer in
    let plan : IsPlanFor I (plan_of D) = subst (λ (J : Situation). IsPlanFor J (plan_of D)) c.requires.draft.day c.base.ensures.plan in
    let changed : AreAllChanged P (plan_of D) (numbers_of legs) = subst (λ (R : PlanRows). AreAllChanged R (plan_of D) (numbers_of legs)) c.requires.draft.plan c.in_ok-legs.ensures.all in
    let costs = c.dearer_by.ensures dearer c.in-Some-dearer_by.is in
    let once : tidies_once m.steps ≡ true = ap tidies_once (sym c.as_slice-steps.ensures) ∙ c.save_at_most.ensures.once known in
    let saved = c.save_at_most.ensures.less known in
    let on : sum_by (λ (leg : Leg). saved_on I P (plan_of D) leg.0) c.as_slice-2.result.now ≡ sum_by (λ (leg : Leg). saved_on I P (plan_of D) leg.0) legs = ap (sum_by (λ (leg : Leg). saved_on I P (plan_of D) leg.0)) c.as_slice-2.ensures.value in
    let booked : sum_by (refill_amount payments.booked.items) c.as_slice-steps.result.now ≡ sum_by (refill_amount payments.booked.items) m.steps = ap (sum_by (refill_amount payments.booked.items)) c.as_slice-steps.ensures in
    save-out I P payments m D legs dearer c.parts-rows.ensures.valid plan c.requires.payments c.requires.draft once changed costs (omega (arith, saved, on, booked)) feasible)

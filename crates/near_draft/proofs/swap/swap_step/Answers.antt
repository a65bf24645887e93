use Rattle.std.proofs.Common.{◌≡◌, ◌<◌, get_or, sym, ap, subst, ◌∙◌, arith}
use Rattle.std.proofs.lemmas.List.{take_all}
use Rattle.desk_data.specs.Situation.{Situation, legs_of, planes_of}
use Rattle.desk_data.specs.PlanRows.{PlanRows}
use Rattle.step_laws.proofs.SwapLaws.{no_leg, swapping, swapped_all, swapped_all-more, swapped_all-is, swapped-within}
use Rattle.step_laws.specs.Swapped.{legs_of_both}
use Rattle.near_draft.specs.Drafts.{plan_of}
use Rattle.near_draft.specs.Legs.{numbers_of}
use Rattle.near_draft.proofs.swap.swap_step.Goals as goal

pub swap_leg-requires : goal.swap_leg-requires
swap_leg-requires c =
    let D = c.args.draft.now in
    let p = c.args.exchange.first.0 in
    let q = c.args.exchange.second.0 in
    let items = c.deref-leg-items.result.now in
    let i = c.loop-leg.leg-index in
    let same = c.loop-leg.invariant.inst in
    let are : numbers_of items ≡ legs_of_both D.inst (plan_of D) p q = ap numbers_of c.deref-leg-items.ensures.value ∙ c.in_ok-legs.ensures c.in-Some.legs c.in-Some.is in
    record {
      first = subst (λ (I : Situation). p < planes_of I) (sym same) c.requires.first;
      second = subst (λ (I : Situation). q < planes_of I) (sym same) c.requires.second;
      leg = subst (λ (I : Situation). (get_or items i no_leg).0 < legs_of I) (sym same) (swapped-within D.inst (plan_of D) p q items are i c.loop-leg-test.true);
    }

pub loop-leg-preserved : goal.loop-leg-preserved
loop-leg-preserved c =
    let D = c.args.draft.now in
    let items = c.deref-leg-items.result.now in
    let i = c.loop-leg.leg-index in
    let p = c.args.exchange.first.0 in
    let q = c.args.exchange.second.0 in
    let at = c.args.exchange.at.0 in
    let x = (get_or items i no_leg).0 in
    record {
      plan = c.in_ok-swap_leg.ensures.plan
          ∙ ap (λ (Q : PlanRows). swapping p q at Q x) c.loop-leg.invariant.plan
          ∙ swapped_all-more (plan_of D) p q at items i c.loop-leg-test.true;
      inst = c.swap_leg.ensures.inst ∙ c.loop-leg.invariant.inst;
      rows = c.swap_leg.ensures.rows ∙ c.loop-leg.invariant.rows;
    }

pub returns-clause-taken : goal.returns-clause-taken
returns-clause-taken c = λ taken.
    let D = c.args.draft.now in
    let items = c.deref-leg-items.result.now in
    let p = c.args.exchange.first.0 in
    let q = c.args.exchange.second.0 in
    let at = c.args.exchange.at.0 in
    let are : numbers_of items ≡ legs_of_both D.inst (plan_of D) p q = ap numbers_of c.deref-leg-items.ensures.value ∙ c.in_ok-legs.ensures c.in-Some.legs c.in-Some.is in
    c.loop-leg.invariant.plan
    ∙ ap (swapped_all (plan_of D) p q at) (take_all c.loop-leg.leg-index items c.loop-leg-test.false)
    ∙ swapped_all-is D.inst (plan_of D) p q at items (omega arith) are

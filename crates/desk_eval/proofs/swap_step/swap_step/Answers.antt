use Rattle.std.proofs.Common.{◌≡◌, ◌+◌, ◌<◌, get_or, refl, sym, ap, subst, ◌∙◌, arith}
use Rattle.std.proofs.lemmas.List.{take_all}
use Rattle.desk_data.specs.Situation.{Situation, legs_of, planes_of}
use Rattle.desk_data.specs.PlanRows.{PlanRows}
use Rattle.desk_eval.proofs.BackLaws.{after-itself, after-more, after-then}
use Rattle.step_laws.proofs.SwapLaws.{no_leg, swapping, swapped_all, swapped_all-more, swapped_all-is, length-swapped, swapped-within}
use Rattle.desk_eval.proofs.swap_step.swap_step.Goals as goal

pub returns-in_err-legs-clause-after : goal.returns-in_err-legs-clause-after
returns-in_err-legs-clause-after c = after-itself 100000 c.args.eval.now

pub loop-leg-init : goal.loop-leg-init
loop-leg-init c = record { rows = refl; after = after-itself 0 c.args.eval.now }

pub swap_leg-requires : goal.swap_leg-requires
swap_leg-requires c =
    let E = c.args.eval.now in
    let items = c.deref-leg-items.result.now in
    let i = c.loop-leg.leg-index in
    let kept = c.loop-leg.invariant.after in
    let few = kept.few in
    let are = rw (← c.deref-leg-items.ensures.value) at c.in_ok-legs.ensures in
    let most = length-swapped E.inst E.rows c.args.exchange.first.0 c.args.exchange.second.0 items are in
    record {
      first = subst (λ (I : Situation). c.args.exchange.first.0 < planes_of I) (sym kept.inst) c.requires.first;
      second = subst (λ (I : Situation). c.args.exchange.second.0 < planes_of I) (sym kept.inst) c.requires.second;
      leg = subst (λ (I : Situation). (get_or items i no_leg).0 < legs_of I) (sym kept.inst) (swapped-within E.inst E.rows c.args.exchange.first.0 c.args.exchange.second.0 items are i c.loop-leg-test.true);
      depth = omega (arith, few, most);
    }

pub returns-in_err-swap_leg-clause-after : goal.returns-in_err-swap_leg-clause-after
returns-in_err-swap_leg-clause-after c =
    let E = c.args.eval.now in
    let items = c.deref-leg-items.result.now in
    let are = rw (← c.deref-leg-items.ensures.value) at c.in_ok-legs.ensures in
    let most = length-swapped E.inst E.rows c.args.exchange.first.0 c.args.exchange.second.0 items are in
    after-then c.loop-leg.leg-index 1 100000 E c.loop-leg.eval c.swap_leg.new.eval (omega (arith, most)) c.loop-leg.invariant.after c.swap_leg.ensures.after

pub loop-leg-preserved : goal.loop-leg-preserved
loop-leg-preserved c =
    let E = c.args.eval.now in
    let items = c.deref-leg-items.result.now in
    let i = c.loop-leg.leg-index in
    let F = c.loop-leg.eval in
    let p = c.args.exchange.first.0 in
    let q = c.args.exchange.second.0 in
    let at = c.args.exchange.at.0 in
    let x = (get_or items i no_leg).0 in
    record {
      rows = c.in_ok-swap_leg.ensures.rows
          ∙ ap (λ (Q : PlanRows). swapping p q at Q x) c.loop-leg.invariant.rows
          ∙ swapped_all-more E.rows p q at items i c.loop-leg-test.true;
      after = after-then i 1 (i + 1) E F c.swap_leg.new.eval (omega arith) c.loop-leg.invariant.after c.swap_leg.ensures.after;
    }

pub returns-clause-rows : goal.returns-clause-rows
returns-clause-rows c =
    let E = c.args.eval.now in
    let items = c.deref-leg-items.result.now in
    let are = rw (← c.deref-leg-items.ensures.value) at c.in_ok-legs.ensures in
    c.loop-leg.invariant.rows
    ∙ ap (swapped_all E.rows c.args.exchange.first.0 c.args.exchange.second.0 c.args.exchange.at.0) (take_all c.loop-leg.leg-index items c.loop-leg-test.false)
    ∙ swapped_all-is E.inst E.rows c.args.exchange.first.0 c.args.exchange.second.0 c.args.exchange.at.0 items (omega arith) are

pub returns-clause-after : goal.returns-clause-after
returns-clause-after c =
    let E = c.args.eval.now in
    let items = c.deref-leg-items.result.now in
    let are = rw (← c.deref-leg-items.ensures.value) at c.in_ok-legs.ensures in
    let most = length-swapped E.inst E.rows c.args.exchange.first.0 c.args.exchange.second.0 items are in
    after-more c.loop-leg.leg-index 100000 E c.loop-leg.eval (omega (arith, most)) c.loop-leg.invariant.after

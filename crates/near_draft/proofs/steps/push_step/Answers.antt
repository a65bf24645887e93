use Rattle.std.proofs.Common.{◌≡◌, get_or, sym, ap, subst, ◌∙◌}
use Rattle.std.specs.Prelude.{None}
use Rattle.std.proofs.lemmas.List.{take_all}
use Rattle.desk_data.specs.Situation.{Situation}
use Rattle.desk_data.specs.PlanRows.{PlanRows}
use Rattle.desk_model.specs.Push.{after_placing, rotation}
use Rattle.hour_counts.specs.declared.pushed.Placing.{Placing}
use Rattle.hour_counts.specs.Placings.{AreLegs, IsPlacing}
use Rattle.hour_counts.proofs.PlacedLaws.{placed_all, placed_all-more, placed_all-is}
use Rattle.near_draft.specs.Drafts.{plan_of}
use Rattle.near_draft.specs.Legs.{numbers_of}
use Rattle.near_draft.proofs.LegLaws.{rotation-legs}
use Rattle.near_draft.proofs.steps.push_step.Goals as goal

-- what is read where there is no placing
no_placing : Placing
no_placing = record { leg = record { 0 = 0 }; before = None }

pub keep-requires : goal.keep-requires
keep-requires c =
    let D = c.args.draft.now in
    rotation-legs D.inst (plan_of D) c.args.plane.0 (numbers_of c.in-Some.order.items) (c.in_ok-order.ensures.order c.in-Some.order c.in-Some.is)

pub place-requires-clause-legs : goal.place-requires-clause-legs
unfolding no_placing
place-requires-clause-legs c =
    let D = c.args.draft.now in
    let p = c.args.plane.0 in
    let items = c.deref-placing-items.result.now in
    let i = c.loop-placing.placing-index in
    let order : numbers_of c.as_slice.result.now ≡ rotation D.inst (plan_of D) p =
    ap numbers_of c.as_slice.ensures.value ∙ c.in_ok-order.ensures.order c.in-Some.order c.in-Some.is in
    let are = rw (c.instance-inst.ensures, c.base.ensures.inst, ← c.deref-placing-items.ensures.value) at c.in_ok-all.ensures.before p order in
    let is : IsPlacing D.inst (plan_of D) (get_or items i no_placing) = are i no_placing c.loop-placing-test.true in
    subst (λ (I : Situation). AreLegs I (get_or items i no_placing)) (sym c.loop-placing.invariant.inst) is.legs

pub loop-placing-preserved : goal.loop-placing-preserved
unfolding no_placing
loop-placing-preserved c =
    let D = c.args.draft.now in
    let F = c.loop-placing.draft in
    let p = c.args.plane.0 in
    let items = c.deref-placing-items.result.now in
    let i = c.loop-placing.placing-index in
    let placing = get_or items i no_placing in
    let order : numbers_of c.as_slice.result.now ≡ rotation D.inst (plan_of D) p =
    ap numbers_of c.as_slice.ensures.value ∙ c.in_ok-order.ensures.order c.in-Some.order c.in-Some.is in
    let are = rw (c.instance-inst.ensures, c.base.ensures.inst, ← c.deref-placing-items.ensures.value) at c.in_ok-all.ensures.before p order in
    let is : IsPlacing D.inst (plan_of D) placing = are i no_placing c.loop-placing-test.true in
    record {
      plan = c.in_ok-place.ensures.plan (plan_of D) (subst (λ (I : Situation). IsPlacing I (plan_of D) placing) (sym c.loop-placing.invariant.inst) is)
          ∙ ap (λ (I : Situation). after_placing I (plan_of D) p (plan_of F) placing.leg.0) c.loop-placing.invariant.inst
          ∙ ap (λ (Q : PlanRows). after_placing D.inst (plan_of D) p Q placing.leg.0) c.loop-placing.invariant.plan
          ∙ placed_all-more D.inst (plan_of D) p items i no_placing c.loop-placing-test.true;
      inst = c.place.ensures.inst ∙ c.loop-placing.invariant.inst;
      rows = c.place.ensures.rows ∙ c.loop-placing.invariant.rows;
    }

pub returns-clause-taken : goal.returns-clause-taken
returns-clause-taken c = λ taken.
    let D = c.args.draft.now in
    let p = c.args.plane.0 in
    let items = c.deref-placing-items.result.now in
    let order : numbers_of c.as_slice.result.now ≡ rotation D.inst (plan_of D) p =
    ap numbers_of c.as_slice.ensures.value ∙ c.in_ok-order.ensures.order c.in-Some.order c.in-Some.is in
    let legs = rw (c.instance-inst.ensures, c.base.ensures.inst, ← c.deref-placing-items.ensures.value) at c.in_ok-all.ensures.legs p order in
    c.loop-placing.invariant.plan
    ∙ ap (placed_all D.inst (plan_of D) p) (take_all c.loop-placing.placing-index items c.loop-placing-test.false)
    ∙ placed_all-is D.inst (plan_of D) p c.args.after items legs

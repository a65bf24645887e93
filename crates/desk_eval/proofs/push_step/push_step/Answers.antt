use Rattle.std.proofs.Common.{◌≡◌, ◌+◌, ◌<◌, get_or, refl, sym, ap, subst, ◌∙◌, arith}
use Rattle.std.specs.Prelude.{None, map}
use Rattle.std.specs.List.{All}
use Rattle.std.proofs.lemmas.List.{take_all}
use Rattle.desk_units.specs.declared.numbers.Leg.{Leg}
use Rattle.desk_data.specs.Situation.{Situation, legs_of, planes_of}
use Rattle.desk_data.specs.PlanRows.{PlanRows}
use Rattle.desk_model.specs.Push.{after_placing, rotation}
use Rattle.hour_counts.specs.declared.pushed.Placing.{Placing}
use Rattle.hour_counts.specs.Placings.{AreLegs, IsPlacing}
use Rattle.desk_eval.proofs.BackLaws.{after-itself, after-more, after-then}
use Rattle.hour_counts.proofs.PlacedLaws.{placed_all, placed_all-more, placed_all-is}
use Rattle.desk_eval.proofs.PlacingLaws.{length-placings}
use Rattle.desk_eval.proofs.push_step.push_step.Goals as goal

-- what is read where there is no placing
no_placing : Placing
no_placing = record { leg = record { 0 = 0 }; before = None }

pub returns-in_err-legs-clause-after : goal.returns-in_err-legs-clause-after
returns-in_err-legs-clause-after c = after-itself 100000 c.args.eval.now

pub returns-in_err-all-clause-after : goal.returns-in_err-all-clause-after
returns-in_err-all-clause-after c = after-itself 100000 c.args.eval.now

pub place-requires : goal.place-requires
unfolding no_placing
place-requires c =
    let E = c.args.eval.now in
    let items = c.deref-placing-items.result.now in
    let i = c.loop-placing.placing-index in
    let kept = c.loop-placing.invariant.after in
    let few = kept.few in
    let order : map (λ (leg : Leg). leg.0) c.as_slice.result.now ≡ rotation E.inst E.rows c.args.plane.0 = ap (map (λ (leg : Leg). leg.0)) c.as_slice.ensures.value ∙ c.in_ok-legs.ensures.order in
    let legs = rw (c.instance.ensures, c.plan.ensures.rows, ← c.deref-placing-items.ensures.value) at c.in_ok-all.ensures.legs c.args.plane.0 order in
    let most = length-placings E.inst E.rows c.args.plane.0 c.args.after items legs in
    let are = rw (c.instance.ensures, c.plan.ensures.rows, ← c.deref-placing-items.ensures.value) at c.in_ok-all.ensures.before c.args.plane.0 order in
    let is : IsPlacing E.inst E.rows (get_or items i no_placing) = are i no_placing c.loop-placing-test.true in
    record {
      plane = subst (λ (I : Situation). c.args.plane.0 < planes_of I) (sym kept.inst) c.requires.plane;
      legs = subst (λ (I : Situation). AreLegs I (get_or items i no_placing)) (sym kept.inst) is.legs;
      depth = omega (arith, few, most);
    }

pub loop-placing-init : goal.loop-placing-init
loop-placing-init c = record { rows = refl; after = after-itself 0 c.args.eval.now }

pub returns-in_err-place-clause-after : goal.returns-in_err-place-clause-after
returns-in_err-place-clause-after c =
    let E = c.args.eval.now in
    let items = c.deref-placing-items.result.now in
    let order : map (λ (leg : Leg). leg.0) c.as_slice.result.now ≡ rotation E.inst E.rows c.args.plane.0 = ap (map (λ (leg : Leg). leg.0)) c.as_slice.ensures.value ∙ c.in_ok-legs.ensures.order in
    let legs = rw (c.instance.ensures, c.plan.ensures.rows, ← c.deref-placing-items.ensures.value) at c.in_ok-all.ensures.legs c.args.plane.0 order in
    let most = length-placings E.inst E.rows c.args.plane.0 c.args.after items legs in
    after-then c.loop-placing.placing-index 1 100000 E c.loop-placing.eval c.place.new.eval (omega (arith, most)) c.loop-placing.invariant.after c.place.ensures.after

pub loop-placing-preserved : goal.loop-placing-preserved
unfolding no_placing
loop-placing-preserved c =
    let E = c.args.eval.now in
    let items = c.deref-placing-items.result.now in
    let i = c.loop-placing.placing-index in
    let F = c.loop-placing.eval in
    let placing = get_or items i no_placing in
    let kept = c.loop-placing.invariant.after in
    let order : map (λ (leg : Leg). leg.0) c.as_slice.result.now ≡ rotation E.inst E.rows c.args.plane.0 = ap (map (λ (leg : Leg). leg.0)) c.as_slice.ensures.value ∙ c.in_ok-legs.ensures.order in
    let are = rw (c.instance.ensures, c.plan.ensures.rows, ← c.deref-placing-items.ensures.value) at c.in_ok-all.ensures.before c.args.plane.0 order in
    let is : IsPlacing E.inst E.rows placing = are i no_placing c.loop-placing-test.true in
    record {
      rows = c.in_ok-place.ensures.rows E.rows (subst (λ (I : Situation). IsPlacing I E.rows placing) (sym kept.inst) is)
          ∙ ap (λ (I : Situation). after_placing I E.rows c.args.plane.0 F.rows placing.leg.0) kept.inst
          ∙ ap (λ (Q : PlanRows). after_placing E.inst E.rows c.args.plane.0 Q placing.leg.0) c.loop-placing.invariant.rows
          ∙ placed_all-more E.inst E.rows c.args.plane.0 items i no_placing c.loop-placing-test.true;
      after = after-then i 1 (i + 1) E F c.place.new.eval (omega arith) kept c.place.ensures.after;
    }

pub returns-clause-rows : goal.returns-clause-rows
returns-clause-rows c =
    let E = c.args.eval.now in
    let items = c.deref-placing-items.result.now in
    let order : map (λ (leg : Leg). leg.0) c.as_slice.result.now ≡ rotation E.inst E.rows c.args.plane.0 = ap (map (λ (leg : Leg). leg.0)) c.as_slice.ensures.value ∙ c.in_ok-legs.ensures.order in
    let legs = rw (c.instance.ensures, c.plan.ensures.rows, ← c.deref-placing-items.ensures.value) at c.in_ok-all.ensures.legs c.args.plane.0 order in
    c.loop-placing.invariant.rows
    ∙ ap (placed_all E.inst E.rows c.args.plane.0) (take_all c.loop-placing.placing-index items c.loop-placing-test.false)
    ∙ placed_all-is E.inst E.rows c.args.plane.0 c.args.after items legs

pub returns-clause-after : goal.returns-clause-after
returns-clause-after c =
    let E = c.args.eval.now in
    let items = c.deref-placing-items.result.now in
    let order : map (λ (leg : Leg). leg.0) c.as_slice.result.now ≡ rotation E.inst E.rows c.args.plane.0 = ap (map (λ (leg : Leg). leg.0)) c.as_slice.ensures.value ∙ c.in_ok-legs.ensures.order in
    let legs = rw (c.instance.ensures, c.plan.ensures.rows, ← c.deref-placing-items.ensures.value) at c.in_ok-all.ensures.legs c.args.plane.0 order in
    let most = length-placings E.inst E.rows c.args.plane.0 c.args.after items legs in
    after-more c.loop-placing.placing-index 100000 E c.loop-placing.eval (omega (arith, most)) c.loop-placing.invariant.after

use Rattle.std.proofs.Common.{◌≡◌, ◌+◌, ◌<◌, ◌∙◌, map, length, get_or, sym, ap, subst, arith}
use Rattle.std.proofs.lemmas.List.{length-map, get_or-map}
use Rattle.desk_units.specs.declared.numbers.Leg.{Leg}
use Rattle.hour_counts.specs.declared.pushed.Placing.{Placing}
use Rattle.hour_counts.proofs.LeftLaws.{ArePlaced, leg_in, left_next, placed_at, placed-more, placed-same, placed-all}
use Rattle.hour_counts.proofs.pushed.placings.Goals as goal
use Rattle.hour_counts.proofs.pushed.placings.Goals.{then-is_placed+in_ok-push, else-is_placed}

-- what is read where there is no leg
no_leg : Leg
no_leg = record { 0 = 0 }

pub loop-k-preserved : goal.loop-k-preserved
unfolding no_leg
loop-k-preserved g c =
    let I = c.args.inst.now in
    let P = g.P.ReadPlan.plan_of c.args.plan.now in
    let legs = c.args.legs.now in
    let order = map (λ (leg : Leg). leg.0) legs in
    let k = c.loop-k.k in
    let leg = get_or legs k no_leg in
    let lt : k < length legs = omega arith in
    let long : k < length order = rw (length-map legs (λ (leg : Leg). leg.0)) lt in
    let here : leg_in order k ≡ leg.0 = get_or-map (λ (leg : Leg). leg.0) legs k no_leg 0 lt in
    let left = left_next order k leg here in
    elim c.if-is_placed.branch [
      | then-is_placed+in_ok-push w ↦
          let placing : Placing = record { leg = leg; before = c.loop-k.before } in
          let pushed = ap (λ v. v.items) w.all-is ∙ w.in_ok-push.ensures.items in
          record {
            placed = λ p sorted. subst (ArePlaced I P c.args.after order (k + 1)) (sym pushed)
                (placed-more I P c.args.after order k c.loop-k.all.items placing long here (sym c.is_placed.ensures ∙ w.if-is_placed.true)
                (placed_at I P p k order c.loop-k.before leg sorted long c.loop-k.invariant.left here) (c.loop-k.invariant.placed p sorted));
            left = left;
          }
      | else-is_placed w ↦
          let kept = ap (λ v. v.items) w.all-is in
          record {
            placed = λ p sorted. subst (ArePlaced I P c.args.after order (k + 1)) (sym kept)
                (placed-same I P c.args.after order k c.loop-k.all.items leg long here (sym c.is_placed.ensures ∙ w.if-is_placed.false) (c.loop-k.invariant.placed p sorted));
            left = left;
          }
    ]

pub returns-clause-legs : goal.returns-clause-legs
returns-clause-legs g c p sorted =
    let legs = c.args.legs.now in
    let order = map (λ (leg : Leg). leg.0) legs in
    let whole : c.loop-k.k ≡ length order = rw (length-map legs (λ (leg : Leg). leg.0)) (omega arith) in
    placed-all c.args.inst.now (g.P.ReadPlan.plan_of c.args.plan.now) p c.args.after order c.loop-k.k c.loop-k.all.items sorted whole (c.loop-k.invariant.placed p sorted)

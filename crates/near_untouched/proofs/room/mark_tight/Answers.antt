use Rattle.std.proofs.Common.{get_or, take, subst, arith}
use Rattle.std.specs.List.{All}
use Rattle.std.proofs.lemmas.List.{take_all}
use Rattle.std.proofs.lemmas.List.Elements.{All-more}
use Rattle.desk_units.specs.declared.numbers.Leg.{Leg}
use Rattle.near_untouched.specs.Hours.{IsLegTold}
use Rattle.near_untouched.proofs.RoomLaws.{leg-kept}
use Rattle.near_untouched.proofs.room.mark_tight.Goals as goal

pub loop-leg-preserved : goal.loop-leg-preserved
loop-leg-preserved g c =
    let m = c.args.movement in
    let I = c.args.plans.now.inst.now in
    let P = c.args.plans.now.earlier.now in
    let Q = c.args.plans.now.later.now in
    let R = c.args.plan.now in
    let legs = c.args.legs.now in
    let i = c.loop-leg.leg-index in
    let old = c.loop-leg.tight.items in
    let new = c.mark_leg.new.tight.items in
    let kept = c.mark_leg.ensures.kept in
    let none : Leg = record { 0 = 0 } in
    record {
      tight = c.mark_leg.ensures.tight;
      kept = λ k on. kept k (c.loop-leg.invariant.kept k on);
      told = All-more (λ (x : Leg). IsLegTold m I P Q R new x.0) legs i none c.loop-leg-test.true
          (λ k d lt. leg-kept m I P Q R old new (get_or (take i legs) k d).0 kept (c.loop-leg.invariant.told k d lt))
          c.mark_leg.ensures.told;
    }

pub returns-clause-told : goal.returns-clause-told
returns-clause-told g c =
    let I = c.args.plans.now.inst.now in
    let P = c.args.plans.now.earlier.now in
    let Q = c.args.plans.now.later.now in
    subst (All (λ (x : Leg). IsLegTold c.args.movement I P Q c.args.plan.now c.loop-leg.tight.items x.0)) (take_all c.loop-leg.leg-index c.args.legs.now (omega arith)) c.loop-leg.invariant.told

use Rattle.std.proofs.Common.{◌≡◌, ℕ, List, replicate, sym, ap, subst, ◌∙◌, arith}
use Rattle.desk_data.specs.Situation.{legs_of}
use Rattle.near_untouched.specs.Counts.{AreCounted}
use Rattle.near_untouched.proofs.CountLaws.{counted-first, few-told}
use Rattle.near_untouched.proofs.counts.touch_many.Goals as goal

pub loop-x-init : goal.loop-x-init
loop-x-init c =
    let m = c.args.movement in
    let I = c.args.inst.now in
    let R = c.args.plan.now in
    let touched = c.args.touched.now.items in
    record {
      kept = λ k on. on;
      counted = subst (λ (counts : List ℕ). AreCounted 0 m I R counts touched) (sym (c.in_ok-counts.ensures ∙ ap (λ (n : ℕ). replicate n 0) c.places_of.ensures)) (counted-first m I R touched c.requires.touched);
    }

pub loop-x-preserved : goal.loop-x-preserved
loop-x-preserved c = record {
  kept = λ k on. c.count_leg.ensures.kept k (c.loop-x.invariant.kept k on);
  counted = c.count_leg.ensures.counted;
}

pub returns-clause-few : goal.returns-clause-few
returns-clause-few c =
    let m = c.args.movement in
    let I = c.args.inst.now in
    let R = c.args.plan.now in
    let counts = c.loop-x.counts.items in
    let touched = c.loop-x.touched.items in
    let all : c.loop-x.x ≡ legs_of I = omega (arith, c.legs-x-end.ensures.count, c.loop-x-test.false, c.loop-x.auto.x-end) in
    few-told m I R counts touched c.parts-rows.ensures.valid (subst (λ (n : ℕ). AreCounted n m I R counts touched) all c.loop-x.invariant.counted)

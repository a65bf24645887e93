use Rattle.std.proofs.Common.{◌≡◌, ℕ, ◌⊎◌, inl, inr, false, below_more}
use Rattle.near_untouched.specs.Marks.{IsFlierMarked, is_marked}
use Rattle.near_untouched.proofs.planes.touch_fliers.Goals as goal

pub loop-x-preserved : goal.loop-x-preserved
loop-x-preserved c =
    let R = c.args.plan.now in
    let legs = c.args.legs.now in
    let new = c.touch_flier.new.planes.items in
    let kept = c.touch_flier.ensures.kept in
    record {
      planes = c.touch_flier.ensures.planes;
      kept = λ k on. kept k (c.loop-x.invariant.kept k on);
      told = below_more (λ (y : ℕ). (is_marked legs y ≡ false) ⊎ IsFlierMarked R new y) c.loop-x.x
          (λ y lt. elim (c.loop-x.invariant.told y lt) [
            | inl free ↦ inl free
            | inr marked ↦ inr (λ p on. kept p (marked p on))
          ])
          c.touch_flier.ensures.told;
    }

use Rattle.std.proofs.Common.{◌≡◌, ℕ, ◌⊎◌, inl, inr, false, true, below_more}
use Rattle.near_untouched.specs.Hours.{place_of}
use Rattle.near_untouched.specs.Marks.{is_marked}
use Rattle.near_untouched.proofs.hours.touch_at.Goals as goal

pub loop-x-preserved : goal.loop-x-preserved
loop-x-preserved c =
    let m = c.args.movement in
    let I = c.args.inst.now in
    let tight = c.args.tight.now in
    let new = c.touch_leg.new.touched.items in
    let kept = c.touch_leg.ensures.kept in
    record {
      touched = c.touch_leg.ensures.touched;
      kept = λ k on. kept k (c.loop-x.invariant.kept k on);
      told = below_more (λ (y : ℕ). (is_marked tight (place_of m I y) ≡ false) ⊎ (is_marked new y ≡ true)) c.loop-x.x
          (λ y lt. elim (c.loop-x.invariant.told y lt) [
            | inl free ↦ inl free
            | inr on ↦ inr (kept y on)
          ])
          c.touch_leg.ensures.told;
    }

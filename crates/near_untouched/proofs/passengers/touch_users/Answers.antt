use Rattle.std.proofs.Common.{below_more}
use Rattle.near_untouched.specs.Passengers.{IsRegroupedTold, IsUserTold}
use Rattle.near_untouched.proofs.PassengerLaws.{regrouped-kept, user-kept}
use Rattle.near_untouched.proofs.passengers.touch_users.Goals as goal

pub loop-r-preserved : goal.loop-r-preserved
loop-r-preserved c =
    let I = c.args.plans.now.inst.now in
    let P = c.args.plans.now.earlier.now in
    let Q = c.args.plans.now.later.now in
    let r = c.loop-r.r in
    let regrouped = c.mark_regrouped-same.new.regrouped.items in
    let touched = c.touch_user.new.touched.items in
    record {
      regrouped = c.mark_regrouped-same.ensures.regrouped;
      touched = c.touch_user.ensures.touched;
      kept = λ k on. c.touch_user.ensures.kept k (c.loop-r.invariant.kept k on);
      groups = below_more (IsRegroupedTold P Q regrouped) r
          (λ k lt. regrouped-kept P Q c.loop-r.regrouped.items regrouped k c.mark_regrouped-same.ensures.kept (c.loop-r.invariant.groups k lt))
          c.mark_regrouped-same.ensures.told;
      users = below_more (IsUserTold I P Q touched) r
          (λ k lt. user-kept I P Q c.loop-r.touched.items touched k c.touch_user.ensures.kept (c.loop-r.invariant.users k lt))
          c.touch_user.ensures.told;
    }

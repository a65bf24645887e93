use Rattle.std.proofs.Common.{arith, below_more}
use Rattle.near_untouched.specs.Passengers.{IsBookedTold}
use Rattle.near_untouched.proofs.PassengerLaws.{booked-kept}
use Rattle.near_untouched.proofs.passengers.touch_booked.Goals as goal

pub loop-r-preserved : goal.loop-r-preserved
loop-r-preserved c =
    let I = c.args.plans.now.inst.now in
    let P = c.args.plans.now.earlier.now in
    let Q = c.args.plans.now.later.now in
    let regrouped = c.args.regrouped.now in
    let touched = c.touch_path.new.touched.items in
    record {
      touched = c.touch_path.ensures.touched;
      kept = λ k on. c.touch_path.ensures.kept k (c.loop-r.invariant.kept k on);
      told = below_more (IsBookedTold I P Q regrouped touched) c.loop-r.r
          (λ k lt. booked-kept I P Q regrouped c.loop-r.touched.items touched k c.touch_path.ensures.kept (c.loop-r.invariant.told k lt))
          c.touch_path.ensures.told;
    }

pub returns-clause-told : goal.returns-clause-told
returns-clause-told c = λ r lt. c.loop-r.invariant.told r (omega (arith, lt, c.reservations-r-end.ensures.count, c.loop-r-test.false, c.loop-r.auto.r-end))

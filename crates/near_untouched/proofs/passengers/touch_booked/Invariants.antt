use Rattle.std.proofs.Common.{◌≡◌, ℕ, ◌<◌, length}
use Rattle.desk_data.specs.Situation.{legs_of}
use Rattle.near_untouched.specs.Marks.{AreKept}
use Rattle.near_untouched.specs.Passengers.{IsBookedTold}
use Rattle.near_untouched.proofs.passengers.touch_booked.Given as goal

-- of the reservations so far it is told
abbrev pub invariant-loop-r : goal.invariant-loop-r
invariant-loop-r l = record {
  touched : length l.touched.items ≡ legs_of l.plans.inst.now;
  kept : AreKept l.fn.touched.items l.touched.items;
  told : (k : ℕ) → k < l.r → IsBookedTold l.plans.inst.now l.plans.earlier.now l.plans.later.now l.regrouped l.touched.items k;
}

use Rattle.std.proofs.Common.{◌≡◌, ℕ, ◌<◌, length}
use Rattle.desk_data.specs.Situation.{legs_of}
use Rattle.near_untouched.specs.Marks.{AreKept}
use Rattle.near_untouched.specs.Passengers.{IsRegroupedTold, IsUserTold}
use Rattle.near_untouched.proofs.passengers.touch_users.Given as goal

-- of the reservations so far it is told
abbrev pub invariant-loop-r : goal.invariant-loop-r
invariant-loop-r l = record {
  regrouped : length l.regrouped.items ≡ legs_of l.plans.inst.now;
  touched : length l.touched.items ≡ legs_of l.plans.inst.now;
  kept : AreKept l.fn.touched.items l.touched.items;
  groups : (k : ℕ) → k < l.r → IsRegroupedTold l.plans.earlier.now l.plans.later.now l.regrouped.items k;
  users : (k : ℕ) → k < l.r → IsUserTold l.plans.inst.now l.plans.earlier.now l.plans.later.now l.touched.items k;
}

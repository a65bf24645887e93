use Rattle.std.proofs.Common.{◌≡◌, ℕ, ◌<◌, ◌⊎◌, false, true, length}
use Rattle.desk_data.specs.Situation.{legs_of}
use Rattle.near_untouched.specs.Hours.{place_of}
use Rattle.near_untouched.specs.Marks.{AreKept, is_marked}
use Rattle.near_untouched.proofs.hours.touch_at.Given as goal

-- of the legs so far it is told
abbrev pub invariant-loop-x : goal.invariant-loop-x
invariant-loop-x l = record {
  touched : length l.touched.items ≡ legs_of l.inst;
  kept : AreKept l.fn.touched.items l.touched.items;
  told : (y : ℕ) → y < l.x → (is_marked l.tight (place_of l.movement l.inst y) ≡ false) ⊎ (is_marked l.touched.items y ≡ true);
}

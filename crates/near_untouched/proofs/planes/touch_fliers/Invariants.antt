use Rattle.std.proofs.Common.{◌≡◌, ℕ, ◌<◌, ◌⊎◌, false, length}
use Rattle.desk_data.specs.Situation.{planes_of}
use Rattle.near_untouched.specs.Marks.{AreKept, IsFlierMarked, is_marked}
use Rattle.near_untouched.proofs.planes.touch_fliers.Given as goal

-- of the legs so far it is told
abbrev pub invariant-loop-x : goal.invariant-loop-x
invariant-loop-x l = record {
  planes : length l.planes.items ≡ planes_of l.inst;
  kept : AreKept l.fn.planes.items l.planes.items;
  told : (y : ℕ) → y < l.x → (is_marked l.legs y ≡ false) ⊎ IsFlierMarked l.plan l.planes.items y;
}

use Rattle.std.proofs.Common.{◌≡◌, length, take}
use Rattle.near_untouched.specs.Marks.{AreKept, AreLegsMarked}
use Rattle.near_untouched.proofs.marks.mark_path.Given as goal

-- the legs so far are marked
abbrev pub invariant-loop-pair : goal.invariant-loop-pair
invariant-loop-pair l = record {
  marks : length l.marks.items ≡ length l.fn.marks.items;
  kept : AreKept l.fn.marks.items l.marks.items;
  marked : AreLegsMarked l.marks.items (take l.pair-index l.path);
}

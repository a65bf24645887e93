use Rattle.std.proofs.Common.{◌≡◌, true, length, take}
use Rattle.std.specs.List.{All}
use Rattle.near_untouched.specs.Marks.{AreKept, is_marked}
use Rattle.near_untouched.proofs.marks.mark_listed.Given as goal

-- the legs so far are marked
abbrev pub invariant-loop-leg : goal.invariant-loop-leg
invariant-loop-leg l = record {
  marks : length l.marks.items ≡ length l.fn.marks.items;
  kept : AreKept l.fn.marks.items l.marks.items;
  marked : All (λ x. is_marked l.marks.items x.0 ≡ true) (take l.leg-index l.legs);
}

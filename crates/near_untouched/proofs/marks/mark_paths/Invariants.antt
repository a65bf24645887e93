use Rattle.std.proofs.Common.{◌≡◌, length, take}
use Rattle.near_untouched.specs.Marks.{AreKept, ArePathsMarked}
use Rattle.near_untouched.proofs.marks.mark_paths.Given as goal

-- the legs of the paths of the groups so far are marked
abbrev pub invariant-loop-group : goal.invariant-loop-group
invariant-loop-group l = record {
  marks : length l.marks.items ≡ length l.fn.marks.items;
  kept : AreKept l.fn.marks.items l.marks.items;
  marked : ArePathsMarked l.marks.items (take l.group-index l.groups);
}

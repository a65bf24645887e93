use Rattle.std.proofs.Common.{◌≡◌, length}
use Rattle.near_untouched.specs.Later.{AreTouchedAt}
use Rattle.near_untouched.proofs.TouchLaws.{AreSameFrom}
use Rattle.near_untouched.proofs.later.touch.Given as goal

-- those before number k are told, and the others are as they were
abbrev pub invariant-loop-k : goal.invariant-loop-k
invariant-loop-k l = record {
  touched : length l.touched.items ≡ l.count;
  each : AreTouchedAt l.k l.marks l.number l.fn.touched.items l.touched.items;
  same : AreSameFrom l.k l.fn.touched.items l.touched.items;
}

use Rattle.std.proofs.Common.{◌≡◌, length, take}
use Rattle.desk_data.specs.Situation.{planes_of}
use Rattle.near_untouched.specs.Marks.{AreKept}
use Rattle.near_untouched.specs.Carried.{AreFliersMarked}
use Rattle.near_untouched.proofs.carried.mark_fliers.Given as goal

-- those that fly the legs so far are marked
abbrev pub invariant-loop-pair : goal.invariant-loop-pair
invariant-loop-pair l = record {
  marks : length l.marks.items ≡ planes_of l.inst;
  kept : AreKept l.fn.marks.items l.marks.items;
  marked : AreFliersMarked l.plan l.marks.items (take l.pair-index l.path);
}

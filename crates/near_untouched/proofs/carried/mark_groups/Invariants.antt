use Rattle.std.proofs.Common.{◌≡◌, All, length, take}
use Rattle.desk_data.specs.Situation.{planes_of}
use Rattle.near_untouched.specs.Marks.{AreKept}
use Rattle.near_untouched.specs.Carried.{AreFliersMarked}
use Rattle.near_untouched.proofs.carried.mark_groups.Given as goal

-- those that fly the legs of the groups so far are marked
abbrev pub invariant-loop-group : goal.invariant-loop-group
invariant-loop-group l = record {
  marks : length l.marks.items ≡ planes_of l.inst;
  kept : AreKept l.fn.marks.items l.marks.items;
  marked : All (λ group. AreFliersMarked l.plan l.marks.items group.path) (take l.group-index l.groups);
}

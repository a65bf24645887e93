use Rattle.std.proofs.Common.{◌≡◌, All, length, take}
use Rattle.desk_data.specs.Situation.{planes_of}
use Rattle.near_priced.specs.Payers.{AreKept, AreFliersMarked}
use Rattle.near_priced.proofs.marks.mark_groups.Given as goal

-- those that fly the legs of the groups so far are marked
abbrev pub invariant-loop-group : goal.invariant-loop-group
invariant-loop-group l = record {
  on : length l.on.items ≡ planes_of l.inst;
  kept : AreKept l.fn.on.items l.on.items;
  marked : All (λ group. AreFliersMarked l.plan l.on.items group.path) (take l.group-index l.groups);
}

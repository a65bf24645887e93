use Rattle.std.proofs.Common.{◌≡◌, length, take}
use Rattle.desk_data.specs.Situation.{planes_of}
use Rattle.near_priced.specs.Payers.{AreKept, AreFliersMarked}
use Rattle.near_priced.proofs.marks.mark_fliers.Given as goal

-- those that fly the legs so far are marked
abbrev pub invariant-loop-pair : goal.invariant-loop-pair
invariant-loop-pair l = record {
  on : length l.on.items ≡ planes_of l.inst;
  kept : AreKept l.fn.on.items l.on.items;
  marked : AreFliersMarked l.plan l.on.items (take l.pair-index l.path);
}

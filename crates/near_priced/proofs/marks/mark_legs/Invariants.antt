use Rattle.std.proofs.Common.{◌≡◌, length, take}
use Rattle.near_priced.specs.Payers.{AreKept, AreLegsMarked}
use Rattle.near_priced.proofs.marks.mark_legs.Given as goal

-- the legs so far are marked
abbrev pub invariant-loop-pair : goal.invariant-loop-pair
invariant-loop-pair l = record {
  booked : length l.booked.items ≡ length l.fn.booked.items;
  kept : AreKept l.fn.booked.items l.booked.items;
  marked : AreLegsMarked l.booked.items (take l.pair-index l.path);
}

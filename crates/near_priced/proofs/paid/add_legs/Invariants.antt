use Rattle.std.proofs.Common.{◌≡◌, length, take}
use Rattle.near_priced.specs.Tables.{AreGrown, AreNoLess}
use Rattle.near_priced.proofs.paid.add_legs.Given as goal

-- the amounts of the legs so far grew
abbrev pub invariant-loop-pair : goal.invariant-loop-pair
invariant-loop-pair l = record {
  amounts : length l.amounts.items ≡ length l.fn.amounts.items;
  kept : AreNoLess l.fn.amounts.items l.amounts.items;
  grown : AreGrown l.cost l.fn.amounts.items l.amounts.items (take l.pair-index l.path);
}

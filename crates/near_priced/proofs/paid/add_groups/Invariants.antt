use Rattle.std.proofs.Common.{◌≡◌, All, length, take}
use Rattle.near_priced.specs.Tables.{AreGrown, AreNoLess}
use Rattle.near_priced.proofs.paid.add_groups.Given as goal

-- the amounts of the groups so far grew
abbrev pub invariant-loop-group : goal.invariant-loop-group
invariant-loop-group l = record {
  on : length l.on.items ≡ length l.fn.on.items;
  kept : AreNoLess l.fn.on.items l.on.items;
  grown : All (λ group. AreGrown l.cost l.fn.on.items l.on.items group.path) (take l.group-index l.groups);
}

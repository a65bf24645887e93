use Rattle.std.proofs.Common.{◌≡◌, ℕ, ◌+◌, length, take}
use Rattle.std.specs.Prelude.{sum_by}
use Rattle.near_priced.specs.Tables.{amount}
use Rattle.near_dear.specs.Owed.{owed_by}
use Rattle.near_dear.proofs.owed.add_groups.Given as goal

-- the groups so far are added
abbrev pub invariant-loop-group : goal.invariant-loop-group
invariant-loop-group l = record {
  legs : length l.owed.items ≡ length l.fn.owed.items;
  grown : (x : ℕ) → amount l.owed.items x ≡ amount l.fn.owed.items x + sum_by (owed_by l.inst x l.res.0) (take l.group-index l.groups);
}

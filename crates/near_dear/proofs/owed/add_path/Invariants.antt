use Rattle.std.proofs.Common.{◌≡◌, length, take}
use Rattle.near_dear.proofs.DropTableLaws.{ArePut}
use Rattle.near_dear.proofs.owed.add_path.Given as goal

-- the legs so far have their cost
abbrev pub invariant-loop-k : goal.invariant-loop-k
invariant-loop-k l = record {
  legs : length l.owed.items ≡ length l.fn.owed.items;
  put : ArePut l.cost (take l.k l.path) l.fn.owed.items l.owed.items;
}

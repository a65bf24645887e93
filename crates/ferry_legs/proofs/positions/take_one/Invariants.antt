use Rattle.std.proofs.Common.{◌≡◌, ◌++◌, map, take, drop}
use Rattle.ferry_legs.specs.Positions.{with_one_less}
use Rattle.ferry_legs.proofs.positions.take_one.Given as goal

-- the first rows are changed, and the others are as they were
abbrev pub invariant-loop-k : goal.invariant-loop-k
invariant-loop-k l = l.rows.items ≡ map (with_one_less l.plane) (take l.k l.fn.rows.items) ++ drop l.k l.fn.rows.items

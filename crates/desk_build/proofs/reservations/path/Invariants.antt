use Rattle.std.proofs.Common.{◌≡◌, map, take}
use Rattle.desk_build.specs.Day.{path_leg}
use Rattle.desk_build.proofs.reservations.path.Given as goal

-- the legs of the rows so far
abbrev pub invariant-loop-k : goal.invariant-loop-k
invariant-loop-k l = l.legs.items ≡ map (path_leg l.tables.files.now.rotations) (take l.k l.rows)

use Rattle.std.proofs.Common.{◌≡◌, map, take}
use Rattle.desk_build.specs.Legs.{leg_of}
use Rattle.desk_build.proofs.day.legs.Given as goal

-- the legs of the rotations so far
abbrev pub invariant-loop-row : goal.invariant-loop-row
invariant-loop-row l = l.legs.items ≡ map (leg_of l.tables.files.now) (take l.row-index l.rows)

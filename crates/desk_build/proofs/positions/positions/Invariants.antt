use Rattle.std.proofs.Common.{◌≡◌, take}
use Rattle.std.specs.List.{flat_map}
use Rattle.desk_build.specs.Day.{positions_of}
use Rattle.desk_build.proofs.positions.positions.Given as goal

-- the positions of the rows so far
abbrev pub invariant-loop-row : goal.invariant-loop-row
invariant-loop-row l = l.positions.items ≡ flat_map (positions_of l.tables.files.now.airports) (take l.row-index l.rows)

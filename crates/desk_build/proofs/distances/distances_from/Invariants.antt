use Rattle.std.proofs.Common.{◌≡◌, map, take}
use Rattle.desk_build.specs.Day.{minutes_between}
use Rattle.desk_build.proofs.distances.distances_from.Given as goal

-- the minutes to the airports so far
abbrev pub invariant-loop-dest : goal.invariant-loop-dest
invariant-loop-dest l = l.row.items ≡ map (minutes_between l.tables.files.now l.origin) (take l.dest l.tables.files.now.airports)

use Rattle.std.proofs.Common.{◌≡◌, map, take}
use Rattle.desk_build.specs.Day.{distances_from}
use Rattle.desk_build.proofs.distances.distances.Given as goal

-- the minutes from the airports so far
abbrev pub invariant-loop-place : goal.invariant-loop-place
invariant-loop-place l = l.rows.items ≡ map (distances_from l.tables.files.now) (take l.place l.airports)

use Rattle.std.proofs.Common.{◌≡◌, map, take}
use Rattle.desk_build.specs.Day.{airport_info}
use Rattle.desk_build.proofs.airports.airports.Given as goal

-- the airports of the rows so far
abbrev pub invariant-loop-row : goal.invariant-loop-row
invariant-loop-row l = l.airports.items ≡ map airport_info (take l.row-index l.rows)

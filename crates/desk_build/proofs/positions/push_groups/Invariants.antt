use Rattle.std.proofs.Common.{◌≡◌, ◌++◌, map, take}
use Rattle.desk_build.specs.Day.{position_info}
use Rattle.desk_build.proofs.positions.push_groups.Given as goal

-- those that stood before, and those of the groups so far
abbrev pub invariant-loop-group : goal.invariant-loop-group
invariant-loop-group l = l.positions.items ≡ l.initial.positions.items ++ map (position_info l.airport) (take l.group-index l.groups)

use Rattle.std.proofs.Common.{◌≡◌, ◌+◌, take}
use Rattle.desk_data.specs.Situation.{carried_gone}
use Rattle.desk_data.proofs.room.left_of.Given as goal

-- what is left, and those whom the groups so far carry
abbrev pub invariant-loop-group : goal.invariant-loop-group
invariant-loop-group l = l.left + carried_gone l.frozen (take l.group-index l.groups) l.legs ≡ l.count

use Rattle.std.proofs.Common.{◌≡◌, take}
use Rattle.desk_data.specs.Situation.{carried_gone}
use Rattle.desk_data.proofs.tally.carried_gone.Given as goal

abbrev pub invariant-loop-group : goal.invariant-loop-group
invariant-loop-group l = l.count ≡ carried_gone l.frozen (take l.group-index l.groups) l.legs

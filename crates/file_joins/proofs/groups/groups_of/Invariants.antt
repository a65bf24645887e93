use Rattle.std.proofs.Common.{◌≡◌, map, take}
use Rattle.file_joins.specs.Groups.{groups_in}
use Rattle.file_joins.proofs.groups.groups_of.Given as goal

abbrev pub invariant-loop-passengers : goal.invariant-loop-passengers
invariant-loop-passengers l = map (λ of. of.items) l.groups.items ≡ map groups_in (take l.passengers-index l.parties)

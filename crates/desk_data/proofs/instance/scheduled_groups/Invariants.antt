use Rattle.std.proofs.Common.{◌≡◌, take, map}
use Rattle.desk_data.specs.Situation.{groups_of}
use Rattle.desk_data.proofs.instance.scheduled_groups.Given as goal

abbrev pub invariant-loop-res : goal.invariant-loop-res
invariant-loop-res l = map (λ g. g.items) l.groups.items ≡ map groups_of (take l.res-index l.reservations)

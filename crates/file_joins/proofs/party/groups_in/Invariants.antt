use Rattle.std.proofs.Common.{◌≡◌, ◌++◌, map}
use Rattle.file_joins.specs.Groups.{groups_in}
use Rattle.file_joins.specs.Parties.{passengers_in}
use Rattle.file_joins.proofs.party.groups_in.Given as goal

abbrev pub invariant-loop-seats : goal.invariant-loop-seats
invariant-loop-seats l = l.groups.items ++ groups_in (map (λ entry. (entry.0.items, entry.1)) l.seats-iterator) ≡ groups_in (passengers_in l.passengers)

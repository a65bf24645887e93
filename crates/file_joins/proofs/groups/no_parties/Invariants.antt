use Rattle.std.proofs.Common.{◌≡◌, [], replicate}
use Rattle.file_joins.proofs.groups.no_parties.Given as goal

abbrev pub invariant-loop : goal.invariant-loop
invariant-loop l = l.parties.items ≡ replicate l.counter []

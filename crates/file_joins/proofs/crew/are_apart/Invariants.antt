use Rattle.std.proofs.Common.{◌≡◌, drop}
use Rattle.file_joins.specs.CrewJoin.{are_apart}
use Rattle.file_joins.proofs.crew.are_apart.Given as goal

abbrev pub invariant-loop-k : goal.invariant-loop-k
invariant-loop-k l = are_apart l.legs ≡ are_apart (drop l.k l.legs)

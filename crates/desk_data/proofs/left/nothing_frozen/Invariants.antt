use Rattle.std.proofs.Common.{◌≡◌, None, replicate}
use Rattle.desk_data.proofs.left.nothing_frozen.Given as goal

abbrev pub invariant-loop : goal.invariant-loop
invariant-loop l = l.frozen.items ≡ replicate l.counter None

use Rattle.std.proofs.Common.{◌≡◌, [], map, replicate}
use Rattle.ferry_legs.proofs.positions.no_positions.Given as goal

abbrev pub invariant-loop : goal.invariant-loop
invariant-loop l = map (λ r. r.items) l.airports.items ≡ replicate l.counter []

use Rattle.std.proofs.Common.{◌≡◌, [], map, replicate}
use Rattle.hour_counts.proofs.flown.no_legs.Given as goal

abbrev pub invariant-loop : goal.invariant-loop
invariant-loop l = map (λ r. r.items) l.legs.items ≡ replicate l.counter []

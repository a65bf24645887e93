use Rattle.std.proofs.Common.{◌≡◌, [], map, replicate}
use Rattle.near_legs.proofs.lists.no_lists.Given as goal

abbrev pub invariant-loop : goal.invariant-loop
invariant-loop l = map (λ r. r.items) l.lists.items ≡ replicate l.counter []

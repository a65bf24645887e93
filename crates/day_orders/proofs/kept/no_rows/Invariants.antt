use Rattle.std.proofs.Common.{◌≡◌, [], map, replicate}
use Rattle.day_orders.proofs.kept.no_rows.Given as goal

abbrev pub invariant-loop : goal.invariant-loop
invariant-loop g l = map (λ r. r.items) l.lists.items ≡ replicate l.counter []

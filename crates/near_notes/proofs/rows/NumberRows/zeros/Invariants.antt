use Rattle.std.proofs.Common.{◌≡◌, [], map, replicate}
use Rattle.near_notes.proofs.rows.NumberRows.zeros.Given as goal

abbrev pub invariant-loop : goal.invariant-loop
invariant-loop l = map (λ r. r.items) l.all.items ≡ replicate l.counter []

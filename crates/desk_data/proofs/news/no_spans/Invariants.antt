use Rattle.std.proofs.Common.{◌≡◌, [], map, replicate}
use Rattle.desk_data.proofs.news.no_spans.Given as goal

abbrev pub invariant-loop : goal.invariant-loop
invariant-loop l = map (λ of_one. of_one.items) l.spans.items ≡ replicate l.counter []

use Rattle.std.proofs.Common.{◌≡◌, None, replicate}
use Rattle.day_orders.proofs.kept.no_words.Given as goal

abbrev pub invariant-loop : goal.invariant-loop
invariant-loop l = l.words.items ≡ replicate l.counter None

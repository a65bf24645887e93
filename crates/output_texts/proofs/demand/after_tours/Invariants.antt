use Rattle.std.proofs.Common.{◌≡◌}
use Rattle.output_texts.specs.Draws.{seeded, state_after}
use Rattle.output_texts.proofs.demand.after_tours.Given as goal

abbrev pub invariant-loop : goal.invariant-loop
invariant-loop l = l.words ≡ state_after (seeded l.seed) l.counter

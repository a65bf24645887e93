use Rattle.std.proofs.Common.{◌≡◌, ◌*◌}
use Rattle.std.specs.List.{flat_map}
use Rattle.output_texts.specs.Draws.{numbers, seeded, state_after}
use Rattle.output_texts.specs.Schedule.{tour_lines, tour_of}
use Rattle.output_texts.proofs.schedule.flights_text.Given as goal

abbrev pub invariant-loop-plane : goal.invariant-loop-plane
invariant-loop-plane l = record {
  words : l.words ≡ state_after (seeded l.fn.seed) (3 * l.plane);
  text : l.text.items ≡ flat_map (λ plane. tour_lines plane (tour_of l.fn.seed plane)) (numbers l.plane);
}

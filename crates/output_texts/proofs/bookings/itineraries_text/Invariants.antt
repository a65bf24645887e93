use Rattle.std.proofs.Common.{◌≡◌, ◌*◌}
use Rattle.std.specs.List.{flat_map}
use Rattle.output_texts.specs.Draws.{state_after}
use Rattle.output_texts.specs.Demand.{after_tours, itinerary_line, lines_of}
use Rattle.output_texts.specs.Seats.{AreLeft}
use Rattle.output_texts.proofs.bookings.itineraries_text.Given as goal

abbrev pub invariant-loop-number : goal.invariant-loop-number
invariant-loop-number l = record {
  words : l.words ≡ state_after (after_tours l.fn.seed l.fn.size) (5 * l.number);
  left : AreLeft l.fn.size (lines_of l.fn.seed l.fn.size l.number) l.rows.items;
  text : l.text.items ≡ flat_map itinerary_line (lines_of l.fn.seed l.fn.size l.number);
}

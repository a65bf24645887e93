use Rattle.std.proofs.Common.{◌≡◌, ◌/◌, ◌<◌, ℕ, length}
use Rattle.output_texts.specs.Seats.{plane_seats, row_at}
use Rattle.output_texts.proofs.seats.all_seats.Given as goal

abbrev pub invariant-loop-x : goal.invariant-loop-x
invariant-loop-x l = record {
  legs : length l.rows.items ≡ l.x;
  each : (k : ℕ) → k < l.x → row_at l.rows.items k ≡ plane_seats (k / 4);
}

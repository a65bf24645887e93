use Rattle.std.proofs.Common.{◌≡◌, ℕ, ◌<◌, length, get_or}
use Rattle.desk_data.specs.declared.booked.Booked.{Booked}
use Rattle.desk_data.specs.Booked.{IsBooked}
use Rattle.desk_data.specs.Situation.{fresh_day}
use Rattle.desk_data.proofs.booked.bookings_of.Given as goal

-- what the reservations so far booked
abbrev pub invariant-loop-r : goal.invariant-loop-r
invariant-loop-r l = record {
  all : length l.bookings.items ≡ l.r;
  each : (k : ℕ) (other : Booked) → k < l.r → IsBooked (fresh_day l.parts) k (get_or l.bookings.items k other);
}

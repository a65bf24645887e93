use Rattle.std.proofs.Common.{◌≡◌, ◌-◌, All, length}
use Rattle.desk_journal.specs.Steps.{seats_at}
use Rattle.desk_journal.specs.Facts.{IsNamedLeg}
use Rattle.desk_journal.proofs.SeatLemmas.{Seat, seats_after}
use Rattle.desk_journal.proofs.parts.next_seats.Given as goal

-- the legs so far, and after them those that are left, are the legs of the path
abbrev pub invariant-loop : goal.invariant-loop
invariant-loop g l = record {
  read : seats_after l.seats.items (seats_at (g.F.TokenForm.readers l.form) (l.count - l.counter) l.tokens) ≡ seats_at (g.F.TokenForm.readers l.fn.form) l.fn.count l.fn.tokens;
  size : length l.seats.items ≡ l.counter;
  facts : All (λ (seat : Seat). IsNamedLeg seat.0) l.seats.items;
}

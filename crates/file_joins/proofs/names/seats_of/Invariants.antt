use Rattle.std.proofs.Common.{◌≡◌, drop}
use Rattle.file_joins.specs.Join.{all_of, seat_of}
use Rattle.file_joins.proofs.AllOf.{prepended}
use Rattle.file_joins.proofs.names.seats_of.Given as goal

-- the legs so far, and those that are left after them, are all of them
abbrev pub invariant-loop-seat : goal.invariant-loop-seat
invariant-loop-seat l = prepended l.seats.items (all_of (seat_of l.names) (drop l.seat-index l.named)) ≡ all_of (seat_of l.names) l.named

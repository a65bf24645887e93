use Rattle.std.proofs.Common.{length, take}
use Rattle.std.specs.Prelude.{All}
use Rattle.desk_units.specs.Padded.{IsNameLength}
use Rattle.desk_top.proofs.names.walk_reservations.Given as goal

abbrev pub invariant-loop-reservation : goal.invariant-loop-reservation
invariant-loop-reservation l = All (λ x. IsNameLength (length x.name)) (take l.reservation-index l.reservations)

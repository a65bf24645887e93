use Rattle.std.proofs.Common.{◌≡◌, ℕ, ◌+◌, take}
use Rattle.desk_units.specs.declared.numbers.Cabin.{Cabin}
use Rattle.desk_rules.specs.Passengers.{aboard_of}
use Rattle.plan_checks.specs.TakenSeats.{seats_at}
use Rattle.plan_checks.proofs.taken.seat_groups.Given as goal

abbrev pub invariant-loop-group : goal.invariant-loop-group
invariant-loop-group l = (x : ℕ) (c : Cabin) → seats_at l.taken x c ≡ seats_at l.initial.taken x c + aboard_of x c (take l.group-index l.groups)

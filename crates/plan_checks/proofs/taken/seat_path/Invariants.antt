use Rattle.std.proofs.Common.{◌≡◌, ℕ, ◌+◌, take, if◌then◌else◌}
use Rattle.desk_units.specs.declared.numbers.Cabin.{Cabin}
use Rattle.desk_rules.specs.Passengers.{takes}
use Rattle.plan_checks.specs.TakenSeats.{seats_at}
use Rattle.plan_checks.proofs.taken.seat_path.Given as goal

abbrev pub invariant-loop-k : goal.invariant-loop-k
invariant-loop-k l = (x : ℕ) (c : Cabin) → seats_at l.taken x c ≡ seats_at l.initial.taken x c + (if takes x c (take l.k l.path) then l.count else 0)

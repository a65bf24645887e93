use Rattle.std.proofs.Common.{◌≡◌}
use Rattle.turn_book.specs.Passes.{tags, IsPassOf}
use Rattle.desk_tests.specs.declared.turn.sums.Sums.{Sums}
use Rattle.desk_tests.proofs.turn.threads.look_on.Given as goal

abbrev pub invariant-loop : goal.invariant-loop
invariant-loop g l = IsPassOf (λ (b : Sums). b.room) l.turn l.pass × (tags l.pass ≡ tags l.initial.pass)

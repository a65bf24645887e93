use Rattle.std.proofs.Common.{◌≡◌}
use Rattle.turn_book.specs.Passes.{tags, IsPassOf}
use Rattle.desk_tests.specs.declared.turn.sums.Sums.{Sums}
use Rattle.desk_tests.proofs.turn.threads.ask_hundred.Given as goal

abbrev pub invariant-loop-i : goal.invariant-loop-i
invariant-loop-i g l = IsPassOf (λ (b : Sums). b.room) l.turn l.pass × (tags l.pass ≡ tags l.initial.pass)

use Rattle.std.proofs.Common.{◌≡◌, ℕ}
use Rattle.std.specs.Prelude.{nat_lt}
use Rattle.crew_duty.specs.Faults.{among}
use Rattle.crew_duty.proofs.broken.numbers_below.Given as goal

abbrev pub invariant-loop-k : goal.invariant-loop-k
invariant-loop-k l = (k : ℕ) → among l.numbers.items k ≡ nat_lt k l.k

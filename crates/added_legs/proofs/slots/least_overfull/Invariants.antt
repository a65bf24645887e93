use Rattle.std.proofs.Common.{◌≡◌, ℕ, ◌<◌, false}
use Rattle.plan_checks.specs.TakenSlots.{is_one_too_many}
use Rattle.added_legs.proofs.slots.least_overfull.Given as goal

abbrev pub invariant-loop-k : goal.invariant-loop-k
invariant-loop-k l = (j : ℕ) → j < l.k → is_one_too_many l.inst l.sorted j ≡ false

use Rattle.std.proofs.Common.{◌≡◌, ◌<◌, ℕ, true, ltb, get_or}
use Rattle.desk_units.specs.declared.numbers.Leg.{Leg}
use Rattle.desk_units.specs.declared.numbers.Cabin.{Cabin}
use Rattle.desk_data.specs.Situation.{leg_at}
use Rattle.desk_data.proofs.instance.Instance.begun.Given as goal

-- the legs so far have begun
abbrev pub invariant-loop-place : goal.invariant-loop-place
invariant-loop-place l = (k : ℕ) (d : Leg × Cabin) → k < l.place → ltb (leg_at l.self (get_or l.path k d).0.0).sched.0 l.self.parts.from.0 ≡ true

use Rattle.std.proofs.Common.{◌≡◌, ◌<◌, ℕ, true, get_or}
use Rattle.std.specs.Prelude.{None, is_some}
use Rattle.desk_units.specs.declared.numbers.Leg.{Leg}
use Rattle.desk_units.specs.declared.numbers.Cabin.{Cabin}
use Rattle.desk_data.proofs.tally.count_frozen.Given as goal

-- the legs so far are frozen
abbrev pub invariant-loop-place : goal.invariant-loop-place
invariant-loop-place l = (k : ℕ) (d : Leg × Cabin) → k < l.place → is_some (get_or l.frozen (get_or l.path k d).0.0 None) ≡ true

use Rattle.std.proofs.Common.{◌≡◌, ◌<◌, ℕ, length}
use Rattle.std.specs.Prelude.{None, slice_index_or}
use Rattle.desk_rules.specs.Cost.{ends_at}
use Rattle.plan_checks.specs.Stands.{is_there}
use Rattle.near_untouched.proofs.ends.ends_after.Given as goal

-- of the aircraft so far
abbrev pub invariant-loop-p : goal.invariant-loop-p
invariant-loop-p l = record {
  planes : length l.ends.items ≡ l.p;
  each : (k airport : ℕ) → k < l.p → is_there (slice_index_or l.ends.items k None) airport ≡ ends_at l.inst l._plan k airport;
}

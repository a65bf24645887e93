use Rattle.std.proofs.Common.{◌≡◌, ℕ, ◌<◌, length, get_or}
use Rattle.std.specs.Prelude.{None}
use Rattle.added_legs.proofs.flight.clear.Given as goal

-- the aircraft so far have none
abbrev pub invariant-loop-p : goal.invariant-loop-p
invariant-loop-p l = record {
  len : length l.flights ≡ l.p-end;
  none : (k : ℕ) → k < l.p → get_or l.flights k None ≡ None;
}

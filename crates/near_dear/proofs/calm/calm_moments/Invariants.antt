use Rattle.std.proofs.Common.{◌≡◌, ℕ, ◌<◌, length, get_or}
use Rattle.near_dear.specs.Calm.{IsCalmAt}
use Rattle.near_dear.proofs.calm.calm_moments.Given as goal

-- the moments of the airports so far
abbrev pub invariant-loop-a : goal.invariant-loop-a
invariant-loop-a g l = record {
  airports : length l.moments.items ≡ l.a;
  each : (a : ℕ) → a < length l.moments.items → IsCalmAt 16 l.inst l.plan a (get_or l.moments.items a 0);
}

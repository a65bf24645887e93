use Rattle.std.proofs.Common.{◌≡◌, ℕ, ◌<◌, get_or}
use Rattle.std.specs.Prelude.{None}
use Rattle.plan_checks.specs.Stands.{end_of}
use Rattle.plan_checks.proofs.stands.put_stands.Given as goal

abbrev pub invariant-loop-p : goal.invariant-loop-p
invariant-loop-p g l = (k : ℕ) → k < l.p → get_or l.stands k None ≡ end_of l.inst k (get_or l.lasts k None)

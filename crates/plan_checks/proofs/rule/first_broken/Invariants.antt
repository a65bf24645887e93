use Rattle.std.proofs.Common.{◌≡◌, ℕ, ◌<◌, true}
use Rattle.plan_checks.specs.Items.{keeps}
use Rattle.plan_checks.proofs.rule.first_broken.Given as goal

abbrev pub invariant-loop-n : goal.invariant-loop-n
invariant-loop-n l = (k : ℕ) → k < l.n → keeps l.inst l.plan l.rule k ≡ true

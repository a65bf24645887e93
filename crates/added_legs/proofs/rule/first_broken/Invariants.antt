use Rattle.std.proofs.Common.{◌≡◌, ℕ, ◌<◌, true}
use Rattle.added_legs.specs.Items.{keeps}
use Rattle.added_legs.specs.Merged.{merged_day, merged_plan}
use Rattle.added_legs.proofs.rule.first_broken.Given as goal

abbrev pub invariant-loop-n : goal.invariant-loop-n
invariant-loop-n l = (k : ℕ) → k < l.n → keeps (merged_day l.inst l.plan l.known.added.now) (merged_plan l.inst l.plan l.known.added.now) l.rule k ≡ true

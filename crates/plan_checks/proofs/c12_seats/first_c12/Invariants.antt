use Rattle.std.proofs.Common.{◌≡◌, ℕ, ◌<◌, [], ◌∷◌}
use Rattle.std.specs.Prelude.{find, None}
use Rattle.desk_units.specs.declared.numbers.Cabin.TheVariants.{F, B, E}
use Rattle.desk_data.specs.declared.broken.Broken.TheVariants.{C12}
use Rattle.desk_rules.specs.Least.{breaks, leg}
use Rattle.plan_checks.proofs.c12_seats.first_c12.Given as goal

abbrev pub invariant-loop-x : goal.invariant-loop-x
invariant-loop-x l = (k : ℕ) → k < l.x → find (breaks l.inst l.plan) (C12 (leg k) F ∷ C12 (leg k) B ∷ C12 (leg k) E ∷ []) ≡ None

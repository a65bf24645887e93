use Rattle.std.proofs.Common.{◌≡◌}
use Rattle.std.specs.Prelude.{find, map}
use Rattle.desk_data.specs.declared.broken.Broken.TheVariants.{C13, C14, C15}
use Rattle.desk_rules.specs.Least.{breaks, res}
use Rattle.desk_rules.specs.Numbers.{numbers}
use Rattle.plan_checks.proofs.carried.first_c13_to_c15.Given as goal

abbrev pub invariant-loop-r : goal.invariant-loop-r
invariant-loop-r l = record {
  c13 : l.c13 ≡ find (breaks l.inst l.plan) (map (λ r. C13 (res r)) (numbers l.r));
  c14 : l.c14 ≡ find (breaks l.inst l.plan) (map (λ r. C14 (res r)) (numbers l.r));
  c15 : l.c15 ≡ find (breaks l.inst l.plan) (map (λ r. C15 (res r)) (numbers l.r));
}

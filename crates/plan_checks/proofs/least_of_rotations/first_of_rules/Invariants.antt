use Rattle.std.proofs.Common.{◌≡◌, drop}
use Rattle.std.specs.Prelude.{find}
use Rattle.std.specs.List.{flat_map}
use Rattle.desk_rules.specs.Least.{breaks}
use Rattle.plan_checks.specs.Items.{items_of}
use Rattle.plan_checks.proofs.least_of_rotations.first_of_rules.Given as goal

-- the first item of the rules that are left is the first of all
abbrev pub invariant-loop-rule : goal.invariant-loop-rule
invariant-loop-rule l = find (breaks l.inst l.plan) (flat_map (items_of l.inst) (drop l.rule-index l.rules)) ≡ find (breaks l.inst l.plan) (flat_map (items_of l.inst) l.rules)

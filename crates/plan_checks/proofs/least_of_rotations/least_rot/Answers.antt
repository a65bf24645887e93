use Rattle.std.proofs.Common.{◌∙◌, ap}
use Rattle.std.specs.Prelude.{find}
use Rattle.desk_rules.specs.Least.{breaks, least_rot}
use Rattle.plan_checks.proofs.RuleLaws.{all_items}
use Rattle.plan_checks.proofs.least_of_rotations.least_rot.Goals as goal

pub returns : goal.returns
unfolding least_rot
returns c = c.first_of_rules.ensures ∙ ap (find (breaks c.args.inst.now c.args.plan.now)) (all_items c.args.inst.now)

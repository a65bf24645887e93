use Rattle.std.proofs.Common.{◌≡◌, ◌+◌, ◌∙◌, Some, None, get_or, drop, sym, ap}
use Rattle.std.specs.Prelude.{Option, find}
use Rattle.std.specs.List.{flat_map}
use Rattle.std.specs.Option.{option_or}
use Rattle.desk_data.specs.declared.broken.Broken.{Broken}
use Rattle.desk_rules.specs.Least.{breaks}
use Rattle.plan_checks.specs.Items.{items_of}
use Rattle.plan_checks.specs.declared.rule.Rule.TheVariants.{C1Due}
use Rattle.plan_checks.proofs.RuleLaws.{next_rule}
use Rattle.plan_checks.proofs.least_of_rotations.first_of_rules.Goals as goal

pub returns-in-Some : goal.returns-in-Some
returns-in-Some c =
    let broken = breaks c.args.inst.now c.args.plan.now in
    let items = items_of c.args.inst.now in
    let rules = c.args.rules.now in
    let i = c.loop-rule.rule-index in
    let here : find broken (items (get_or rules i C1Due)) ≡ Some c.in-Some.item = sym c.first_broken.ensures ∙ c.in-Some.is in
    sym (ap (λ (first : Option Broken). option_or first (find broken (flat_map items (drop (i + 1) rules)))) here)
    ∙ sym (next_rule broken items rules i C1Due c.loop-rule-test.true) ∙ c.loop-rule.invariant

pub loop-rule-preserved : goal.loop-rule-preserved
loop-rule-preserved c =
    let broken = breaks c.args.inst.now c.args.plan.now in
    let items = items_of c.args.inst.now in
    let rules = c.args.rules.now in
    let i = c.loop-rule.rule-index in
    let here : find broken (items (get_or rules i C1Due)) ≡ None = sym c.first_broken.ensures ∙ c.in_default.is in
    sym (ap (λ (first : Option Broken). option_or first (find broken (flat_map items (drop (i + 1) rules)))) here)
    ∙ sym (next_rule broken items rules i C1Due c.loop-rule-test.true) ∙ c.loop-rule.invariant

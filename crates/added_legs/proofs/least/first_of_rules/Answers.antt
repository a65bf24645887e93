use Rattle.std.proofs.Common.{◌≡◌, ◌+◌, ◌∙◌, Bool, Some, None, get_or, drop, sym, ap}
use Rattle.std.specs.Prelude.{Option, find}
use Rattle.std.specs.List.{flat_map}
use Rattle.std.specs.Option.{option_or, option_map}
use Rattle.desk_data.specs.declared.broken.Broken.{Broken}
use Rattle.desk_data.specs.Situation.{legs_of}
use Rattle.desk_rules.specs.Least.{breaks}
use Rattle.added_legs.specs.declared.added.AddBroken.{AddBroken}
use Rattle.added_legs.specs.Added.{named}
use Rattle.added_legs.specs.Merged.{merged_day, merged_plan}
use Rattle.added_legs.specs.Items.{items_of}
use Rattle.added_legs.specs.declared.rule.Rule.TheVariants.{C4Range}
use Rattle.added_legs.proofs.ItemLaws.{next_rule, map_or}
use Rattle.added_legs.proofs.least.first_of_rules.Goals as goal

pub returns-in-Some : goal.returns-in-Some
returns-in-Some c =
    let I = c.args.inst.now in
    let P = c.args.plan.now in
    let broken : Broken → Bool = breaks (merged_day I P c.args.known.added.now) (merged_plan I P c.args.known.added.now) in
    let name : Broken → AddBroken = named (legs_of I) in
    let items = items_of I in
    let rules = c.args.rules.now in
    let i = c.loop-rule.rule-index in
    let here : option_map name (find broken (items (get_or rules i C4Range))) ≡ Some c.in-Some.item = sym c.first_broken.ensures ∙ c.in-Some.is in
    sym (ap (λ (first : Option AddBroken). option_or first (option_map name (find broken (flat_map items (drop (i + 1) rules))))) here)
    ∙ sym (map_or name (find broken (items (get_or rules i C4Range))) (find broken (flat_map items (drop (i + 1) rules))))
    ∙ sym (ap (option_map name) (next_rule broken items rules i C4Range c.loop-rule-test.true)) ∙ c.loop-rule.invariant

pub loop-rule-preserved : goal.loop-rule-preserved
loop-rule-preserved c =
    let I = c.args.inst.now in
    let P = c.args.plan.now in
    let broken : Broken → Bool = breaks (merged_day I P c.args.known.added.now) (merged_plan I P c.args.known.added.now) in
    let name : Broken → AddBroken = named (legs_of I) in
    let items = items_of I in
    let rules = c.args.rules.now in
    let i = c.loop-rule.rule-index in
    let here : option_map name (find broken (items (get_or rules i C4Range))) ≡ None = sym c.first_broken.ensures ∙ c.in_default.is in
    sym (ap (λ (first : Option AddBroken). option_or first (option_map name (find broken (flat_map items (drop (i + 1) rules))))) here)
    ∙ sym (map_or name (find broken (items (get_or rules i C4Range))) (find broken (flat_map items (drop (i + 1) rules))))
    ∙ sym (ap (option_map name) (next_rule broken items rules i C4Range c.loop-rule-test.true)) ∙ c.loop-rule.invariant

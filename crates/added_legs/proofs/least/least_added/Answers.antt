use Rattle.std.proofs.Common.{◌≡◌, sym, ap, subst, ◌∙◌}
use Rattle.std.specs.Prelude.{find, Option, IfOk}
use Rattle.std.specs.Option.{option_or, option_map}
use Rattle.desk_data.specs.Situation.{legs_of}
use Rattle.desk_rules.specs.Least.{breaks, slot_items}
use Rattle.added_legs.specs.declared.added.AddBroken.{AddBroken}
use Rattle.added_legs.specs.Added.{named, least_added}
use Rattle.added_legs.specs.Merged.{merged_day, merged_plan}
use Rattle.added_legs.proofs.ItemLaws.{first_split}
use Rattle.added_legs.proofs.least.least_added.Goals as goal

pub returns-in-Some : goal.returns-in-Some
returns-in-Some c =
    let I = c.args.inst.now in
    let P = c.args.plan.now in
    let A = c.args.added.now in
    let hours = option_map (named (legs_of I)) (find (breaks (merged_day I P A) (merged_plan I P A)) (slot_items I)) in
    sym (first_split I P A ∙ ap (λ (first : Option AddBroken). option_or first hours) (sym c.in_ok-item.ensures ∙ c.in-Some.is))

pub returns : goal.returns
returns c =
    let I = c.args.inst.now in
    let P = c.args.plan.now in
    let A = c.args.added.now in
    let hours = option_map (named (legs_of I)) (find (breaks (merged_day I P A) (merged_plan I P A)) (slot_items I)) in
    let rest : least_added I P A ≡ hours = first_split I P A ∙ ap (λ (first : Option AddBroken). option_or first hours) (sym c.in_ok-item.ensures ∙ c.in-None.is) in
    subst (λ least. IfOk c.first_of_hours.result (λ item. item ≡ least)) (sym rest) c.first_of_hours.ensures

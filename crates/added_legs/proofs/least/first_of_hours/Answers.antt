use Rattle.std.proofs.Common.{Bool, sym, ap, ◌∙◌}
use Rattle.std.specs.Prelude.{find, Option}
use Rattle.std.specs.Option.{option_or, option_map}
use Rattle.desk_data.specs.declared.broken.Broken.{Broken}
use Rattle.desk_data.specs.declared.broken.Broken.TheVariants.{C11}
use Rattle.desk_data.specs.Situation.{legs_of}
use Rattle.desk_rules.specs.Least.{breaks, each_hour}
use Rattle.added_legs.specs.declared.added.AddBroken.TheVariants as add
use Rattle.added_legs.specs.Merged.{merged_day, merged_plan}
use Rattle.added_legs.proofs.ItemLaws.{hours_split}
use Rattle.added_legs.proofs.least.first_of_hours.Goals as goal

pub returns-in-Some : goal.returns-in-Some
returns-in-Some c =
    let I = c.args.inst.now in
    let p : Broken → Bool = breaks (merged_day I c.args.plan.now c.args.added.now) (merged_plan I c.args.plan.now c.args.added.now) in
    sym (hours_split I (legs_of I) p
    ∙ ap (λ (o : Option Broken). option_or (option_map add.Old o) (option_map add.Old (find p (each_hour I C11)))) (sym c.in_ok-item.ensures ∙ c.in-Some.is))

pub returns-in-Some-2 : goal.returns-in-Some-2
returns-in-Some-2 c =
    let I = c.args.inst.now in
    let p : Broken → Bool = breaks (merged_day I c.args.plan.now c.args.added.now) (merged_plan I c.args.plan.now c.args.added.now) in
    sym (hours_split I (legs_of I) p
    ∙ ap (λ (o : Option Broken). option_or (option_map add.Old o) (option_map add.Old (find p (each_hour I C11)))) (sym c.in_ok-item.ensures ∙ c.in_default.is)
    ∙ ap (option_map add.Old) (sym c.in_ok-item-2.ensures ∙ c.in-Some-2.is))

pub returns-in-None : goal.returns-in-None
returns-in-None c =
    let I = c.args.inst.now in
    let p : Broken → Bool = breaks (merged_day I c.args.plan.now c.args.added.now) (merged_plan I c.args.plan.now c.args.added.now) in
    sym (hours_split I (legs_of I) p
    ∙ ap (λ (o : Option Broken). option_or (option_map add.Old o) (option_map add.Old (find p (each_hour I C11)))) (sym c.in_ok-item.ensures ∙ c.in_default.is)
    ∙ ap (option_map add.Old) (sym c.in_ok-item-2.ensures ∙ c.in-None.is))

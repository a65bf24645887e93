use Rattle.std.proofs.Common.{◌≡◌, sym, ap, ◌∙◌, subst, IfOk}
use Rattle.std.specs.Prelude.{find}
use Rattle.std.specs.Option.{option_or}
use Rattle.desk_data.specs.declared.broken.Broken.TheVariants.{C11}
use Rattle.desk_rules.specs.Least.{breaks, each_hour, least_slots}
use Rattle.plan_checks.proofs.SlotItemLaws.{least-by_rule}
use Rattle.plan_checks.proofs.least_of_slots.least_slots.Goals as goal

pub returns-in-Some : goal.returns-in-Some
returns-in-Some c =
    let inst = c.args.inst.now in
    let plan = c.args.plan.now in
    sym (least-by_rule inst plan ∙ ap (λ first. option_or first (find (breaks inst plan) (each_hour inst C11))) (sym c.in_ok-item.ensures ∙ c.in-Some.is))

pub returns-in-None : goal.returns-in-None
returns-in-None c =
    let inst = c.args.inst.now in
    let plan = c.args.plan.now in
    let rest : least_slots inst plan ≡ find (breaks inst plan) (each_hour inst C11) =
    least-by_rule inst plan ∙ ap (λ first. option_or first (find (breaks inst plan) (each_hour inst C11))) (sym c.in_ok-item.ensures ∙ c.in-None.is) in
    subst (λ least. IfOk c.first_c11.result (λ item. item ≡ least)) (sym rest) c.first_c11.ensures

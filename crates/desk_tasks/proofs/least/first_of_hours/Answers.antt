use Rattle.std.proofs.Common.{◌≡◌, ◌∙◌, sym, ap, subst}
use Rattle.std.specs.Prelude.{IfOk, find}
use Rattle.std.specs.Option.{option_or}
use Rattle.desk_data.specs.declared.broken.Broken.TheVariants.{C11}
use Rattle.desk_rules.specs.Least.{breaks, each_hour, least_slots}
use Rattle.plan_checks.proofs.SlotItemLaws.{least-by_rule}
use Rattle.desk_tasks.proofs.least.first_of_hours.Goals as goal

pub returns-in-Some : goal.returns-in-Some
returns-in-Some c =
    let I = c.args.inst.now in
    let P = c.args.plan.now in
    let told = rw c.in_ok-item.was at c.requires.departures in
    sym (least-by_rule I P ∙ ap (λ first. option_or first (find (breaks I P) (each_hour I C11))) (sym told ∙ c.in-Some.is))

pub returns-in-None : goal.returns-in-None
returns-in-None c =
    let I = c.args.inst.now in
    let P = c.args.plan.now in
    let told = rw c.in_ok-item.was at c.requires.departures in
    let rest : least_slots I P ≡ find (breaks I P) (each_hour I C11) =
    least-by_rule I P ∙ ap (λ first. option_or first (find (breaks I P) (each_hour I C11))) (sym told ∙ c.in-None.is) in
    subst (λ least. IfOk c.args.arrivals (λ item. item ≡ least)) (sym rest) c.requires.arrivals

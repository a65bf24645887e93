use Rattle.std.proofs.Common.{◌≡◌, ◌∙◌, None, Some, sym, ap, subst}
use Rattle.std.specs.Prelude.{Option, IfOk}
use Rattle.std.specs.Option.{option_or}
use Rattle.desk_data.specs.declared.broken.Broken.{Broken}
use Rattle.desk_rules.specs.Least.{least_rot, least_slots, least_pax}
use Rattle.desk_rules.proofs.LeastLaws.{least-split}
use Rattle.desk_tasks.proofs.PathLaws.{none_in_pieces, passengers-alone, seats-alone}
use Rattle.desk_tasks.proofs.least.par_check.Goals as goal

pub returns-in-Some : goal.returns-in-Some
returns-in-Some g c =
    let I = c.args.inst.now in
    let P = c.args.plan.now in
    let told : c.in_ok-item.field-0 ≡ least_rot I P = rw c.in_ok-item.was at c.join.ensures.second.1.0 in
    let rot : least_rot I P ≡ Some c.in-Some.item = sym told ∙ c.in-Some.is in
    sym (least-split I P ∙ ap (λ (first : Option Broken). option_or first (option_or (least_slots I P) (least_pax I P))) rot)

pub returns-in-Some-2 : goal.returns-in-Some-2
returns-in-Some-2 g c =
    let I = c.args.inst.now in
    let P = c.args.plan.now in
    let told : c.in_ok-item.field-0 ≡ least_rot I P = rw c.in_ok-item.was at c.join.ensures.second.1.0 in
    let rot : least_rot I P ≡ None = sym told ∙ c.in-None.is in
    let counted : c.in_ok-slot-in-None.field-0 ≡ least_slots I P = rw c.in_ok-slot-in-None.was at c.first_of_hours.ensures in
    let hours : least_slots I P ≡ Some c.in-Some-2.slot = sym counted ∙ c.in-Some-2.is in
    sym (least-split I P ∙ ap (λ (first : Option Broken). option_or first (option_or (least_slots I P) (least_pax I P))) rot ∙ ap (λ (first : Option Broken). option_or first (least_pax I P)) hours)

pub returns-in-None-2 : goal.returns-in-None-2
returns-in-None-2 g c =
    let I = c.args.inst.now in
    let P = c.args.plan.now in
    let told : c.in_ok-item.field-0 ≡ least_rot I P = rw c.in_ok-item.was at c.join.ensures.second.1.0 in
    let counted : c.in_ok-slot-in-None.field-0 ≡ least_slots I P = rw c.in_ok-slot-in-None.was at c.first_of_hours.ensures in
    let alone = passengers-alone I P (sym told ∙ c.in-None.is) (sym counted ∙ c.in-None-2.is) in
    let none = none_in_pieces I P c.cuts_of-cuts.result.departures (c.join.ensures.first.1 c.if-departures.true) (c.join.ensures.second.1.1.1 c.if-others.true) in
    subst (λ (first : Option Broken). IfOk c.join.result.1.seats (λ item. item ≡ first)) (sym (seats-alone I P none) ∙ alone) c.join.ensures.second.1.1.0

pub returns-in-None-2-2 : goal.returns-in-None-2-2
returns-in-None-2-2 g c =
    let I = c.args.inst.now in
    let P = c.args.plan.now in
    let told : c.in_ok-item.field-0 ≡ least_rot I P = rw c.in_ok-item.was at c.join.ensures.second.1.0 in
    let counted : c.in_ok-slot-in-None.field-0 ≡ least_slots I P = rw c.in_ok-slot-in-None.was at c.first_of_hours.ensures in
    subst (λ (first : Option Broken). IfOk c.least_pax.result (λ item. item ≡ first)) (passengers-alone I P (sym told ∙ c.in-None.is) (sym counted ∙ c.in-None-2.is)) c.least_pax.ensures

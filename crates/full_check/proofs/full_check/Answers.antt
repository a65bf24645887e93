use Rattle.std.proofs.Common.{◌≡◌, ◌∙◌, None, Some, refl, sym, subst}
use Rattle.std.specs.Prelude.{Option, IfOk}
use Rattle.desk_data.specs.declared.broken.Broken.{Broken}
use Rattle.desk_rules.specs.Least.{least, least_rot, least_slots, least_pax}
use Rattle.desk_rules.proofs.LeastLaws.{least-split}
use Rattle.full_check.proofs.full_check.Goals as goal

pub returns-in-Some : goal.returns-in-Some
returns-in-Some c =
    let rot : Some c.in-Some.item ≡ least_rot c.args.inst.now c.args.plan.now = sym c.in-Some.is ∙ c.in_ok-item.ensures in
    rw (least-split, ← rot) refl

pub returns-in-Some-2 : goal.returns-in-Some-2
returns-in-Some-2 c =
    let I = c.args.inst.now in
    let P = c.args.plan.now in
    let none : least_rot I P ≡ None = sym c.in_ok-item.ensures ∙ c.in-None.is in
    let slots : Some c.in-Some-2.slot ≡ least_slots I P = sym c.in-Some-2.is ∙ c.in_ok-slot-in-None.ensures in
    rw (least-split, none, ← slots) refl

pub returns-in-None-2 : goal.returns-in-None-2
returns-in-None-2 c =
    let I = c.args.inst.now in
    let P = c.args.plan.now in
    let none : least_rot I P ≡ None = sym c.in_ok-item.ensures ∙ c.in-None.is in
    let free : least_slots I P ≡ None = sym c.in_ok-slot-in-None.ensures ∙ c.in-None-2.is in
    let is : least_pax I P ≡ least I P = rw (least-split, none, free) refl in
    subst (λ (first : Option Broken). IfOk c.least_pax.result (λ item. item ≡ first)) is c.least_pax.ensures

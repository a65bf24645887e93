use Rattle.std.proofs.Common.{◌≡◌, ℕ, ◌-◌, ◌≤◌, All, List, ◌++◌, length, get_or, ap, sym, subst, ◌∙◌}
use Rattle.std.specs.List.{flat_map}
use Rattle.added_legs.specs.Merged.{IsAdded}
use Rattle.desk_rules.proofs.LeastLaws.{feasible-holds}
use Rattle.ferry_legs.specs.declared.ferried.Ferried.{Ferried}
use Rattle.desk_tasks.specs.Lines.{line_of, report_line_of}
use Rattle.desk_tasks.proofs.FerryTexts.{all_added, file_made, report_made}
use Rattle.desk_tasks.proofs.texts.ferried_texts.Goals as goal

pub ferry-requires-clause-feasible : goal.ferry-requires-clause-feasible
ferry-requires-clause-feasible c = feasible-holds c.args.inst.now c.args.plan.now c.requires.feasible

pub push_lines-requires-clause-list : goal.push_lines-requires-clause-list
push_lines-requires-clause-list c =
    let I = c.args.inst.now in
    let P = c.args.plan.now in
    subst (λ (legs : List Ferried). All (λ (f : Ferried). IsAdded I P f.leg) legs) (sym c.as_slice-legs.ensures.value) (all_added I P c.in_ok-list.list.items c.in_ok-list.ensures.added.each)

pub push_report_lines-requires-clause-list : goal.push_report_lines-requires-clause-list
push_report_lines-requires-clause-list c =
    let I = c.args.inst.now in
    let P = c.args.plan.now in
    subst (λ (legs : List Ferried). All (λ (f : Ferried). IsAdded I P f.leg) legs) (sym c.as_slice-legs.ensures.value) (all_added I P c.in_ok-list.list.items c.in_ok-list.ensures.added.each)

pub returns-clause-file : goal.returns-clause-file
returns-clause-file c =
    let I = c.args.inst.now in
    let P = c.args.plan.now in
    file_made I P c.in_ok-list.list.items c.push_lines.new.text.items c.in_ok-list.ensures.ferried
    (c.in_ok-push_lines.ensures
    ∙ ap (λ (text : List ℕ). text ++ flat_map (line_of I P) c.as_slice-legs.result.now) c.new-file.ensures.items
    ∙ ap (flat_map (line_of I P)) c.as_slice-legs.ensures.value)

pub returns-clause-report : goal.returns-clause-report
returns-clause-report c =
    let I = c.args.inst.now in
    let P = c.args.plan.now in
    let alone = c.args.alone in
    let found = c.last_cost.result in
    report_made I P c.in_ok-list.list.items alone found c.push_report_lines.new.text.items c.push_end.new.text.items c.parts-rows.ensures.valid c.requires.plan.legs c.in_ok-list.ensures.ferried c.requires.cost
    (subst (λ (legs : List Ferried). length legs ≡ 0 → found ≡ alone) c.as_slice-legs.ensures.value c.last_cost.ensures.none)
    (subst (λ (legs : List Ferried). (f : Ferried) → 1 ≤ length legs → found ≡ (get_or legs (length legs - 1) f).cost) c.as_slice-legs.ensures.value c.last_cost.ensures.some)
    (c.in_ok-push_report_lines.ensures
    ∙ ap (λ (text : List ℕ). text ++ flat_map (report_line_of I P) c.as_slice-legs.result.now) c.new-report.ensures.items
    ∙ ap (flat_map (report_line_of I P)) c.as_slice-legs.ensures.value)
    c.in_ok-push_end.ensures

use Rattle.std.proofs.Common.{◌≡◌, true, take, drop, rules, sym, ap, subst, ◌∙◌}
use Rattle.std.specs.List.{list_all}
use Rattle.std.proofs.lemmas.List.{take-append-drop}
use Rattle.std.proofs.lemmas.Option.{same_Some}
use Rattle.desk_model.specs.Steps.{after_steps}
use Rattle.near_moves.specs.RowRules.{keeps_rows}
use Rattle.near_draft.specs.Drafts.{Drafted, IsDraftOf, plan_of}
use Rattle.near_draft.proofs.moves.draft_of.Goals as goal

pub returns : goal.returns
returns c =
    let I = c.args.base.now.inst in
    let P = c.args.base.now.rows in
    let m = c.args.m.now in
    let n = c.first_steps.result in
    let D = c.take_steps.new.draft in
    let start = c.of-draft.ensures in
    let day : D.inst ≡ I = c.take_steps.ensures.inst ∙ ap (λ (E : Drafted). E.inst) start in
    let plan : D.rows ≡ P = c.take_steps.ensures.rows ∙ ap (λ (E : Drafted). E.rows) start in
    let all : c.in_ok-take_steps.field-0 ≡ true = search rules in
    let front : c.split_at.result.0.now ≡ take n m.steps = c.split_at.ensures.front ∙ ap (take n) c.as_slice-steps.ensures in
    let back : c.split_at.result.1.now ≡ drop n m.steps = c.split_at.ensures.back ∙ ap (drop n) c.as_slice-steps.ensures in
    let made : plan_of D ≡ after_steps I P (take n m.steps) =
    c.in_ok-take_steps.ensures.taken all ∙ ap (λ (E : Drafted). after_steps E.inst (plan_of E) c.split_at.result.0.now) start ∙ ap (after_steps I P) front in
    let kept : c.leave_rows.result ≡ true = search rules in
    let keeps : list_all keeps_rows (drop n m.steps) ≡ true = ap (list_all keeps_rows) (sym back) ∙ sym c.leave_rows.ensures ∙ kept in
    let it : IsDraftOf I P m D = record {
      day = day;
      plan = plan;
      first = take n m.steps;
      others = drop n m.steps;
      steps = sym (take-append-drop n m.steps);
      keeps = keeps;
      made = made;
    } in
    λ x is. subst (IsDraftOf I P m) (same_Some D x is) it

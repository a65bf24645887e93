use Rattle.std.proofs.Common.{◌≡◌, ◌++◌, take, drop, sym, ap, ◌∙◌}
use Rattle.std.proofs.lemmas.List.{take-append-drop}
use Rattle.near_priced.proofs.payers.Payers.rule_out.Goals as goal

pub returns-in-Some : goal.returns-in-Some
returns-in-Some c = λ known feasible.
    (let m = c.args.m.now in
    let n = c.first_steps.result in
    let front : c.split_at.result.0.now ≡ take n m.steps = c.split_at.ensures.front ∙ ap (take n) c.as_slice-steps.ensures in
    let back : c.split_at.result.1.now ≡ drop n m.steps = c.split_at.ensures.back ∙ ap (drop n) c.as_slice-steps.ensures in
    let steps : m.steps ≡ c.split_at.result.0.now ++ c.split_at.result.1.now =
    sym (take-append-drop n m.steps) ∙ ap (λ xs. xs ++ drop n m.steps) (sym front) ∙ ap (λ xs. c.split_at.result.0.now ++ xs) (sym back) in
    c.rules_out.ensures known m c.requires.fits steps feasible)

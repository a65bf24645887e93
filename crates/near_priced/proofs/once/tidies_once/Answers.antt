use Rattle.std.proofs.Common.{◌≡◌, ◌+◌, ◌≤◌, true, ◌∷◌, drop, length, sym, ap, ◌∙◌, arith}
use Rattle.std.proofs.lemmas.List.{drop_all, drop_more}
use Rattle.near_priced.specs.Saved.{goes_on}
use Rattle.near_priced.proofs.once.tidies_once.Goals as goal

pub loop-step-preserved : goal.loop-step-preserved
loop-step-preserved c = λ holds.
    (let steps = c.args.steps.now in
    let i = c.loop-step.step-index in
    let step = c.step-item.result in
    let next : drop i steps ≡ step ∷ drop (i + 1) steps = drop_more steps i step c.loop-step-test.true ∙ ap (λ s. s ∷ drop (i + 1) steps) (sym c.step-item.is) in
    c.loop-step.invariant (ap (goes_on c.loop-step.tidied) next ∙ c.after_step.ensures c.in-Some.next c.in-Some.is (drop (i + 1) steps) ∙ holds))

pub returns : goal.returns
returns c = λ yes.
    (let steps = c.args.steps.now in
    let i = c.loop-step.step-index in
    let all : length steps ≤ i = omega (arith, c.loop-step-test.false) in
    c.loop-step.invariant (ap (λ tidied. goes_on tidied (drop i steps)) yes ∙ ap (goes_on true) (drop_all i steps all)))

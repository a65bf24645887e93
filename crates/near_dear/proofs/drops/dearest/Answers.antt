use Rattle.std.proofs.Common.{◌≡◌, ℕ, ◌+◌, List, [], ◌∷◌, ◌++◌, take, sym, ap, subst, ◌∙◌}
use Rattle.std.specs.List.{Contains}
use Rattle.plan_moves.specs.declared.moves.Step.{Step}
use Rattle.near_dear.specs.Drops.{legs_set}
use Rattle.near_dear.proofs.StepLaws.{set-more}
use Rattle.near_dear.proofs.drops.dearest.Goals as goal

pub loop-step-preserved : goal.loop-step-preserved
loop-step-preserved c = λ x is.
    (let steps = c.args.steps.now in
    let i = c.loop-step.step-index in
    let step = c.step-item.result in
    let before = legs_set (take i steps) in
    let more : legs_set (take (i + 1) steps) ≡ before ++ legs_set (step ∷ []) = set-more steps i step c.loop-step-test.true ∙ ap (λ (s : Step). before ++ legs_set (s ∷ [])) (sym c.step-item.is) in
    subst (λ (legs : List ℕ). Contains legs x.0) (sym more) (c.dearer-found.ensures before c.loop-step.invariant x is))

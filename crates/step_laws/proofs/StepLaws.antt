-- Steps, one at a time.
use Rattle.std.proofs.Common.{◌≡◌, ℕ, ◌+◌, ◌<◌, List, [], ◌∷◌, ◌++◌, length, get_or, take, refl, sym, ap, ◌∙◌}
use Rattle.std.proofs.lemmas.List.{take_more}
use Rattle.plan_moves.specs.declared.moves.Step.{Step}
use Rattle.desk_data.specs.Situation.{Situation}
use Rattle.desk_data.specs.PlanRows.{PlanRows}
use Rattle.desk_model.specs.Steps.{after_step, after_steps}

after_steps-push : (I : Situation) (P : PlanRows) (steps : List Step) (step : Step) → after_steps I P (steps ++ step ∷ []) ≡ after_step I (after_steps I P steps) step
after_steps-push I P [] step = refl
after_steps-push I P (first ∷ steps) step = after_steps-push I (after_step I P first) steps step

-- one step more of a list
pub after_steps-more : (I : Situation) (P : PlanRows) (steps : List Step) (i : ℕ) (step : Step) → i < length steps → step ≡ get_or steps i step → after_step I (after_steps I P (take i steps)) step ≡ after_steps I P (take (i + 1) steps)
after_steps-more I P steps i step within is =
    ap (after_step I (after_steps I P (take i steps))) is
    ∙ sym (ap (after_steps I P) (take_more steps i step within) ∙ after_steps-push I P (take i steps) (get_or steps i step))

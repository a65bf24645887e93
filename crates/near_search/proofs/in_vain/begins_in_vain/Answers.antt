use Rattle.std.proofs.Common.{◌∷◌, ap, ◌∙◌}
use Rattle.plan_moves.specs.declared.moves.Step.{Step}
use Rattle.near_search.proofs.OutLaws.{swaps-out}
use Rattle.near_search.proofs.in_vain.begins_in_vain.Goals as goal

pub returns-in-Swap : goal.returns-in-Swap
returns-in-Swap c = λ yes others m keeps is.
    let swap = c.in-Swap in
    swaps-out c.args.eval.now.inst c.args.eval.now.rows m swap.first.0 swap.second.0 swap.at.0 others
    (is ∙ ap (λ (step : Step). step ∷ others) swap.is) keeps (c.is_swapped_in_vain.ensures yes)

pub returns-in-Set : goal.returns-in-Set
returns-in-Set c = λ yes others m keeps is.
    c.is_set_in_vain.ensures yes others m keeps (is ∙ ap (λ (step : Step). step ∷ others) c.in-Set.is)

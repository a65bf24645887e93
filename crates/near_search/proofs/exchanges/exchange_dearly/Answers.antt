use Rattle.std.proofs.Common.{◌≡◌, ◌∷◌, List, sym, ap, subst, ◌∙◌}
use Rattle.std.specs.Prelude.{None}
use Rattle.desk_data.specs.Valid.{IsPlanFor, IsValid}
use Rattle.desk_rules.specs.Least.{least}
use Rattle.plan_moves.specs.declared.moves.Step.{Step}
use Rattle.plan_moves.specs.declared.moves.Step.TheVariants.{Swap}
use Rattle.near_moves.specs.LegMoves.{exchange}
use Rattle.near_search.proofs.OutLaws.{exchanges-out}
use Rattle.near_search.proofs.VainLaws.{none_left}
use Rattle.near_search.proofs.exchanges.exchange_dearly.Goals as goal

pub returns-then-push_both : goal.returns-then-push_both
returns-then-push_both c = λ yes m fits is.
    (let I = c.args.eval.now.inst in
    let P = c.args.eval.now.rows in
    let swap = c.in-Swap in
    let valid : IsValid I = subst IsValid c.instance.ensures c.parts-rows.ensures.valid in
    let plan : IsPlanFor I P = subst (IsPlanFor I) c.plan.ensures.rows c.plan.ensures.valid in
    let feasible : least I P ≡ None = none_left (least I P) (sym c.requires.rotations.feasible ∙ c.is_known_dear.ensures.feasible yes) in
    let steps : m.steps ≡ exchange swap.first.0 swap.second.0 swap.at.0 = is ∙ ap (λ (step : Step). step ∷ c.args.others.now) swap.is ∙ ap (λ (steps : List Step). Swap swap.first swap.second swap.at ∷ steps) (c.push_both.ensures c.if-push_both.true) in
    exchanges-out I P m swap.first.0 swap.second.0 swap.at.0 valid plan feasible fits steps (c.is_known_dear.ensures.dear yes))

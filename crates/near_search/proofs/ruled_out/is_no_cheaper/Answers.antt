use Rattle.std.proofs.Common.{sym, ◌∙◌, subst, ◌≤◌}
use Rattle.std.proofs.lemmas.Bool.{leb-true}
use Rattle.plan_moves.specs.declared.moves.Step.{Step}
use Rattle.desk_rules.specs.Cost.{cost}
use Rattle.desk_model.specs.Steps.{after_step}
use Rattle.near_search.proofs.FirstLaws.{rebook-step}
use Rattle.near_search.proofs.ruled_out.is_no_cheaper.Goals as goal

pub returns-in-Rebook : goal.returns-in-Rebook
returns-in-Rebook c = λ yes.
    let I = c.args.eval.now.inst in
    let P = c.args.eval.now.rows in
    let r = c.in-Rebook in
    subst (λ (step : Step). cost I P ≤ cost I (after_step I P step)) (sym r.is)
    (rebook-step I P r.res r.path r.to r.count (leb-true _ _ (sym c.costs_no_less.ensures ∙ yes)))

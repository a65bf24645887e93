use Rattle.std.proofs.Common.{◌≡◌, ◌∷◌, List, sym, ap, subst, ◌∙◌}
use Rattle.std.specs.Prelude.{None}
use Rattle.desk_data.specs.declared.row.Row.TheVariants.{Cancelled, Flown}
use Rattle.desk_data.specs.Valid.{IsPlanFor, IsValid}
use Rattle.desk_rules.specs.Least.{least}
use Rattle.plan_moves.specs.declared.moves.Step.{Step}
use Rattle.plan_moves.specs.declared.moves.Step.TheVariants.{Set}
use Rattle.near_search.proofs.RestoreLaws.{alone-out}
use Rattle.near_search.proofs.VainLaws.{none_left}
use Rattle.near_search.proofs.restores.is_alone_dearly.Goals as goal

pub returns-then-goes_alone : goal.returns-then-goes_alone
returns-then-goes_alone c = λ yes m fits is.
    (let I = c.args.eval.now.inst in
    let P = c.args.eval.now.rows in
    let there = c.args.there in
    let valid : IsValid I = subst IsValid c.instance.ensures c.parts-rows.ensures.valid in
    let plan : IsPlanFor I P = subst (IsPlanFor I) c.plan.ensures.rows c.plan.ensures.valid in
    let feasible : least I P ≡ None = none_left (least I P) (sym c.requires.rotations.feasible ∙ c.is_known_dear.ensures.feasible yes) in
    alone-out I P m there.leg there.plane there.at valid plan feasible fits
    (is ∙ ap (λ (rest : List Step). Set there.leg Cancelled (Flown there.plane there.at) ∷ rest) (c.goes_alone.ensures c.if-goes_alone.true))
    (c.is_known_dear.ensures.dear yes))

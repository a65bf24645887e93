use Rattle.std.proofs.Common.{◌∷◌, ap, ◌∙◌}
use Rattle.desk_data.specs.declared.row.Row.{Row}
use Rattle.desk_data.specs.declared.row.Row.TheVariants.{Cancelled}
use Rattle.plan_moves.specs.declared.moves.Step.TheVariants.{Set}
use Rattle.near_search.proofs.OutLaws.{restores-out}
use Rattle.near_search.proofs.in_vain.is_set_in_vain.Goals as goal

pub returns-in-Flown-new : goal.returns-in-Flown-new
returns-in-Flown-new c = λ yes others m keeps is.
    restores-out c.args.eval.now.inst c.args.eval.now.rows m c.args.leg.0 c.in-Flown-new.plane.0 c.in-Flown-new.dep.0 others
    (is ∙ ap (λ (row : Row). Set c.args.leg row c.args.new ∷ others) c.in-Cancelled.is ∙ ap (λ (row : Row). Set c.args.leg Cancelled row ∷ others) c.in-Flown-new.is) keeps (c.is_restored_in_vain.ensures yes)

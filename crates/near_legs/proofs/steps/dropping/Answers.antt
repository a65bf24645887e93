use Rattle.std.proofs.Common.{◌≡◌, ◌++◌, ◌∷◌, [], List, map, ap, ◌∙◌}
use Rattle.std.specs.Prelude.{None}
use Rattle.desk_units.specs.declared.numbers.Leg.{Leg}
use Rattle.plan_moves.specs.declared.moves.Step.{Step}
use Rattle.plan_moves.specs.declared.moves.Step.TheVariants.{Push, Tidy}
use Rattle.near_moves.specs.MoveParts.{flier}
use Rattle.near_legs.specs.Choices.{run_step}
use Rattle.near_legs.proofs.ChoiceLaws.{dropping-is}
use Rattle.near_legs.proofs.steps.dropping.Goals as goal

pub returns : goal.returns
returns c =
    let P = c.args.plan.now in
    let legs = c.in_ok-legs.legs.items in
    let front : c.in_ok-steps.steps.items ≡ map (λ (l : Leg). run_step P None l.0) legs = c.in_ok-steps.ensures ∙ ap (map (λ (l : Leg). run_step P None l.0)) c.as_slice.ensures.value in
    let first : c.push.new.self.items ≡ map (λ (l : Leg). run_step P None l.0) legs ++ Push c.flier.result None ∷ [] =
    c.in_ok-push.ensures.items ∙ ap (λ (s : Step). c.in_ok-steps.steps.items ++ s ∷ []) c.push_all.ensures ∙ ap (λ (ss : List Step). ss ++ Push c.flier.result None ∷ []) front in
    dropping-is c.args.inst.now P c.args.leg.0 c.args.count legs c.flier.result c.push-2.new.self.items c.in_ok-legs.ensures.legs
    (c.flier.ensures ∙ ap flier c.read_row.ensures.row)
    (c.in_ok-push-2.ensures.items ∙ ap (λ (ss : List Step). ss ++ Tidy ∷ []) first)

use Rattle.std.proofs.Common.{List, map, ap, ◌∙◌}
use Rattle.std.specs.Prelude.{filter}
use Rattle.std.specs.List.{list_all}
use Rattle.plan_moves.specs.declared.moves.Step.{Step}
use Rattle.near_moves.specs.Near.{move_of, step_in_time, unit_moves}
use Rattle.near_legs.specs.Choices.{steps_of}
use Rattle.near_legs.proofs.RunLaws.{all_taken}
use Rattle.near_legs.proofs.made.moves_of.Goals as goal

pub returns : goal.returns
unfolding unit_moves
returns c =
    c.loop-choice.invariant
    ∙ ap (λ (ss : List (List Step)). map move_of (filter (list_all step_in_time) ss))
    (ap (map (steps_of c.args.inst.now c.args.plan.now)) (all_taken c.deref-choice-items.result.now c.loop-choice.choice-index c.loop-choice-test.false ∙ c.deref-choice-items.ensures.value) ∙ c.in_ok-choices.ensures.steps)

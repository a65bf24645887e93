use Rattle.std.proofs.Common.{◌≡◌, map, take}
use Rattle.std.specs.Prelude.{filter}
use Rattle.std.specs.List.{list_all}
use Rattle.near_moves.specs.Near.{move_of, step_in_time}
use Rattle.near_legs.specs.Choices.{steps_of}
use Rattle.near_legs.proofs.made.moves_of.Given as goal

abbrev pub invariant-loop-choice : goal.invariant-loop-choice
invariant-loop-choice l = l.moves.items ≡ map move_of (filter (list_all step_in_time) (map (steps_of l.inst l.plan) (take l.choice-index l.choice-items)))

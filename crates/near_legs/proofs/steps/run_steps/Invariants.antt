use Rattle.std.proofs.Common.{◌≡◌, map, take}
use Rattle.near_legs.specs.Choices.{run_step}
use Rattle.near_legs.proofs.steps.run_steps.Given as goal

abbrev pub invariant-loop-leg : goal.invariant-loop-leg
invariant-loop-leg l = l.steps.items ≡ map (λ leg. run_step l.plan l.to leg.0) (take l.leg-index l.legs)

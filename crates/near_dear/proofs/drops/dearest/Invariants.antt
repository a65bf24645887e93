use Rattle.std.proofs.Common.{take}
use Rattle.std.specs.List.{Contains}
use Rattle.std.specs.Option.{ForSome}
use Rattle.near_dear.specs.Drops.{legs_set}
use Rattle.near_dear.proofs.drops.dearest.Given as goal

-- what was found is among the legs so far
abbrev pub invariant-loop-step : goal.invariant-loop-step
invariant-loop-step l = ForSome l.found (λ leg. Contains (legs_set (take l.step-index l.steps)) leg.0)

use Rattle.std.proofs.Common.{◌≡◌, true, take}
use Rattle.std.specs.List.{list_all}
use Rattle.near_dear.specs.Drops.{cancels}
use Rattle.near_dear.proofs.drops.cancel_all.Given as goal

abbrev pub invariant-loop-step : goal.invariant-loop-step
invariant-loop-step l = list_all (cancels l.plan l.plane.0) (take l.step-index l.steps) ≡ true

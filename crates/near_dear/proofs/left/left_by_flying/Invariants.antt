use Rattle.std.proofs.Common.{◌≡◌, ◌+◌, take}
use Rattle.std.specs.Prelude.{sum_by}
use Rattle.near_dear.specs.Drops.{flying_of}
use Rattle.near_dear.proofs.left.left_by_flying.Given as goal

abbrev pub invariant-loop-step : goal.invariant-loop-step
invariant-loop-step l = sum_by (flying_of l.inst l.plan) (take l.step-index l.steps) + l.left ≡ l.limit

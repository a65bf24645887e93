use Rattle.std.proofs.Common.{◌≤◌, take}
use Rattle.std.specs.List.{All}
use Rattle.near_dear.specs.Times.{IsBy}
use Rattle.near_dear.proofs.times.all_by.Given as goal

-- all that is asked of the legs so far
abbrev pub invariant-loop-leg : goal.invariant-loop-leg
invariant-loop-leg l = record {
  from : l.fn.from ≤ l.by;
  legs : All (λ leg. IsBy l.inst l.plan l.moments l.by leg.0) (take l.leg-index l.legs);
}

use Rattle.std.proofs.Common.{◌≡◌, ◌*◌, ◌≤◌, take}
use Rattle.std.specs.Prelude.{sum_by}
use Rattle.near_dear.specs.Times.{late_block}
use Rattle.near_dear.proofs.flying.tail_minutes.Given as goal

abbrev pub invariant-loop-leg : goal.invariant-loop-leg
invariant-loop-leg l = record {
  minutes : l.minutes ≡ sum_by (λ leg. late_block l.inst l.plan l.at.0 leg.0) (take l.leg-index l.legs);
  few : l.minutes ≤ l.leg-index * 2880;
}

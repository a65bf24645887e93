use Rattle.std.proofs.Common.{◌≡◌, ◌*◌, ◌≤◌, take}
use Rattle.std.specs.Prelude.{sum_by}
use Rattle.desk_data.specs.Situation.{leg_at}
use Rattle.near_dear.proofs.times.minutes_of.Given as goal

abbrev pub invariant-loop-leg : goal.invariant-loop-leg
invariant-loop-leg l = record {
  minutes : l.minutes ≡ sum_by (λ leg. (leg_at l.inst leg.0).block) (take l.leg-index l.legs);
  few : l.minutes ≤ l.leg-index * 2880;
}

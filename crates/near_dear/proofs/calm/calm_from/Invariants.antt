use Rattle.std.proofs.Common.{◌+◌, ◌-◌, ◌/◌, ◌≤◌}
use Rattle.near_dear.proofs.CalmLaws.{AreCalmFrom}
use Rattle.near_dear.proofs.calm.calm_from.Given as goal

-- the hours from this one on are calm
abbrev pub invariant-loop-hour : goal.invariant-loop-hour
invariant-loop-hour g l = record {
  calm : AreCalmFrom l.inst l.plan l.fn.airport.0 l.hour;
  few : l.hour ≤ l.inst.parts.to.0 / 60 + 1;
}

abbrev pub decreases-loop-hour : goal.decreases-loop-hour
decreases-loop-hour g l = l.hour - l.first

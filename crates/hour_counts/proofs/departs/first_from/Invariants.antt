use Rattle.std.proofs.Common.{◌≡◌, ℕ, ◌+◌, ◌-◌, ◌<◌, ◌≤◌, false}
use Rattle.desk_model.specs.Push.{can_depart}
use Rattle.hour_counts.proofs.departs.first_from.Given as goal

-- the leg can depart at no moment before `at`
abbrev pub invariant-loop-at : goal.invariant-loop-at
invariant-loop-at g l = record {
  from : l.low ≤ l.at;
  none : (s : ℕ) → l.low ≤ s → s < l.at → can_depart l.inst (g.P.ReadPlan.plan_of l.plan) l.plane.0 l.leg.0 s ≡ false;
}

abbrev pub decreases-loop-at : goal.decreases-loop-at
decreases-loop-at g l = l.latest + 1 - l.at

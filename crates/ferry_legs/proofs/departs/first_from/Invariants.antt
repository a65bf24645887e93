use Rattle.std.proofs.Common.{◌≡◌, ℕ, ◌-◌, ◌<◌, ◌≤◌, false}
use Rattle.ferry_legs.specs.Departs.{can_depart}
use Rattle.ferry_legs.proofs.departs.first_from.Given as goal

-- the leg can depart at no moment before `at`
abbrev pub invariant-loop-at : goal.invariant-loop-at
invariant-loop-at l = record {
  from : l.ready ≤ l.at;
  none : (s : ℕ) → l.ready ≤ s → s < l.at → can_depart l.inst l.plan l.asked.departures.added.now l.asked.way s ≡ false;
}

abbrev pub decreases-loop-at : goal.decreases-loop-at
decreases-loop-at l = l.end - l.at

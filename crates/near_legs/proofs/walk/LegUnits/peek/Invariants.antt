use Rattle.std.proofs.Common.{◌≡◌}
use Rattle.near_legs.specs.Walk.{IsUnitWalk, places_left, units_left}
use Rattle.near_legs.proofs.walk.LegUnits.peek.Given as goal

abbrev pub invariant-loop-self : goal.invariant-loop-self
invariant-loop-self l = record {
  walk : IsUnitWalk l.inst l.plan l.self;
  left : units_left l.inst l.plan l.self ≡ units_left l.inst l.plan l.fn.self;
}

abbrev pub decreases-loop-self : goal.decreases-loop-self
decreases-loop-self l = places_left l.self

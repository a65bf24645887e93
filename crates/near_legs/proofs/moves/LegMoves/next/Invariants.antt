use Rattle.std.proofs.Common.{◌≡◌, length}
use Rattle.near_legs.specs.Walk.{IsOf, left, units_left}
use Rattle.near_legs.proofs.moves.LegMoves.next.Given as goal

abbrev pub invariant-units : goal.invariant-units
invariant-units l = record {
  walk : IsOf l.inst l.plan l.self;
  left : left l.inst l.plan l.self ≡ left l.inst l.plan l.fn.self;
}

abbrev pub decreases-units : goal.decreases-units
decreases-units l = length (units_left l.inst l.plan l.self.units)

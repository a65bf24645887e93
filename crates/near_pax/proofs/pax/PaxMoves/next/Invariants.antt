use Rattle.std.proofs.Common.{◌≡◌, length}
use Rattle.near_pax.specs.Left.{IsOf, left, units_left}
use Rattle.near_pax.proofs.pax.PaxMoves.next.Given as goal

abbrev pub invariant-loop-next : goal.invariant-loop-next
invariant-loop-next l = record {
  of : IsOf l.inst l.plan l.self;
  left : left l.inst l.plan l.self ≡ left l.inst l.plan l.fn.self;
}

abbrev pub decreases-loop-next : goal.decreases-loop-next
decreases-loop-next l = length (units_left l.inst l.plan l.self)

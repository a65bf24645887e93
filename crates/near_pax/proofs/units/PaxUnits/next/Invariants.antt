use Rattle.std.proofs.Common.{◌≡◌}
use Rattle.near_pax.specs.Units.{left_units}
use Rattle.near_pax.proofs.units.PaxUnits.next.Given as goal

abbrev pub invariant-loop-r : goal.invariant-loop-r
invariant-loop-r l = record {
  res : l.self.res ≡ l.r;
  shards : l.self.shards ≡ l.fn.self.shards;
  left : left_units l.inst l.plan l.self ≡ left_units l.inst l.plan l.fn.self;
}

use Rattle.std.proofs.Common.{◌≡◌}
use Rattle.plan_reads.specs.Order.{rotation_legs}
use Rattle.plan_reads.proofs.order.rotation_legs_of.Given as goal

abbrev pub invariant-loop-x : goal.invariant-loop-x
invariant-loop-x g l = l.flown.items ≡ rotation_legs (g.P.ReadPlan.plan_of l.plan).rows l.x

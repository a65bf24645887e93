use Rattle.std.proofs.Common.{◌≡◌, map, take}
use Rattle.hour_counts.specs.RotationLegs.{rotation_leg}
use Rattle.hour_counts.proofs.rotation_legs.rotation_legs_of.Given as goal

abbrev pub invariant-loop-leg : goal.invariant-loop-leg
invariant-loop-leg g l = l.all.items ≡ map (λ leg. rotation_leg (g.P.ReadPlan.plan_of l.plan) leg.0) (take l.leg-index l.legs)

use Rattle.std.proofs.Common.{map}
use Rattle.hour_counts.specs.Flown.{AreFlownOfFirst}
use Rattle.hour_counts.proofs.flown.FlownLegs.of.Given as goal

abbrev pub invariant-loop-x : goal.invariant-loop-x
invariant-loop-x g l = AreFlownOfFirst l.x l.inst (g.P.ReadPlan.plan_of l.plan) (map (λ r. r.items) l.legs.items)

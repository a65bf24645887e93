use Rattle.hour_counts.specs.Counts.{AreCountsOfFirst}
use Rattle.hour_counts.proofs.counts.HourCounts.of.Given as goal

abbrev pub invariant-loop-x : goal.invariant-loop-x
invariant-loop-x g l = AreCountsOfFirst l.x l.inst (g.P.ReadPlan.plan_of l.plan) (record { departures = l.counts-inside.departures; arrivals = l.counts-inside.arrivals })

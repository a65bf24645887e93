use Rattle.plan_reads.specs.Last.{AreLasts}
use Rattle.plan_reads.proofs.last.put_lasts.Given as goal

abbrev pub invariant-loop-x : goal.invariant-loop-x
invariant-loop-x g l = AreLasts l.inst (g.P.ReadPlan.plan_of l.plan) (g.M.Moments.moment_of l.moments l.inst) l.x l.lasts

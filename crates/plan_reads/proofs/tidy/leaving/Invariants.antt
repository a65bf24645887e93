use Rattle.std.proofs.Common.{◌≡◌, take}
use Rattle.plan_reads.specs.Made.{leaving}
use Rattle.plan_reads.proofs.tidy.leaving.Given as goal

abbrev pub invariant-loop-group : goal.invariant-loop-group
invariant-loop-group g l = l.count ≡ leaving l.inst (g.P.ReadPlan.plan_of l.plan) l.res.0 (take l.group-index l.groups)

use Rattle.std.proofs.Common.{drop}
use Rattle.desk_tasks.proofs.Batches.{Continues}
use Rattle.desk_tasks.proofs.plan.with_batches.Given as goal

abbrev pub invariant-loop-batch : goal.invariant-loop-batch
invariant-loop-batch l = Continues l.fn.inst l.inst l.plan (drop l.batch-index l.batches) l.batches

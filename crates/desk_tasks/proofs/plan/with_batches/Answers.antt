use Rattle.std.proofs.Common.{sym, subst}
use Rattle.desk_data.specs.Valid.{IsBatch}
use Rattle.desk_data.proofs.BatchLaws.{plan-parts}
use Rattle.desk_tasks.proofs.plan.with_batches.Goals as goal

-- the batches so far leave the rows of the day, and so each later one can be taken
pub add-requires-clause-batch : goal.add-requires-clause-batch
add-requires-clause-batch c =
    subst (λ parts. IsBatch parts c.batch-item.result) (sym c.loop-batch.invariant.parts)
    (subst (IsBatch c.args.inst.parts) (sym c.batch-item.is)
    (c.requires.batches c.loop-batch.batch-index c.batch-item.result c.loop-batch-test.true))

-- and a plan for the day stays one
pub add-requires-clause-plan : goal.add-requires-clause-plan
add-requires-clause-plan c = plan-parts c.args.inst c.loop-batch.inst c.args.plan.now c.loop-batch.invariant.parts c.requires.plan

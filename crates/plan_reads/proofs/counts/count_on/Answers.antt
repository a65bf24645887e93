use Rattle.std.proofs.Common.{arith}
use Rattle.desk_data.specs.PlanRows.{same_path}
use Rattle.plan_reads.proofs.CountLaws.{room_more}
use Rattle.plan_reads.proofs.counts.count_on.Goals as goal

pub overflow_add-count : goal.overflow_add-count
overflow_add-count c =
    omega (arith, room_more (λ other. same_path other c.args.path.now) c.args.groups.now c.loop-group.group-index c.group-item.result (omega arith) c.group-item.is, c.loop-group.invariant, c.requires)

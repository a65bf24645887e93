use Rattle.std.proofs.Common.{arith, not}
use Rattle.desk_model.specs.Tidy.{stays_carried}
use Rattle.plan_reads.proofs.CountLaws.{room_more}
use Rattle.plan_reads.proofs.tidy.leaving.Goals as goal

pub overflow_add-count : goal.overflow_add-count
overflow_add-count g c =
    let P = g.P.ReadPlan.plan_of c.args.plan.now in
    omega (arith, room_more (λ path. not (stays_carried c.args.inst.now P c.args.res.0 path)) c.args.groups.now c.loop-group.group-index c.group-item.result (omega arith) c.group-item.is, c.loop-group.invariant, c.requires.few)

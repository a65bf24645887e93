use Rattle.std.proofs.Common.{arith}
use Rattle.desk_data.proofs.TallyLaws.{count_gone-le}
use Rattle.desk_data.proofs.tally.count_then.Goals as goal

pub overflow_add-result : goal.overflow_add-result
overflow_add-result c = omega (arith, c.carried_gone.ensures.limit, c.saturating_sub.ensures, c.count_gone-before.ensures, count_gone-le c.args.inst.now.progress.frozen c.tally.result.now c.args.legs.now c.tally.ensures.ranges)

use Rattle.std.proofs.Common.{arith}
use Rattle.desk_data.proofs.TallySteps.{carried_and_one, carried_so_far}
use Rattle.desk_data.proofs.tally.carried_gone.Goals as goal

pub overflow_add-count : goal.overflow_add-count
overflow_add-count c = omega (arith, c.loop-group.invariant, carried_and_one c.args.frozen.now c.args.groups.now c.args.legs.now c.loop-group.group-index c.group-item.result c.loop-group-test.true c.group-item.is c.requires)

pub returns-clause-limit : goal.returns-clause-limit
returns-clause-limit c = omega (arith, c.loop-group.invariant, carried_so_far c.args.frozen.now c.args.groups.now c.args.legs.now c.loop-group.group-index c.requires)

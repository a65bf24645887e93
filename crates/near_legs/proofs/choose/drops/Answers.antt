use Rattle.std.proofs.Common.{arith}
use Rattle.near_legs.proofs.ChoiceLaws.{drops-are, drops-sound}
use Rattle.near_legs.proofs.choose.drops.Goals as goal

pub returns-clause-steps : goal.returns-clause-steps
returns-clause-steps c =
    drops-are c.args.inst.now c.args.plan.now c.args.leg c.loop-count.all.items _ c.loop-count.count-index c.loop-count.invariant.all c.loop-count.invariant.items (omega arith)

pub returns-clause-sound : goal.returns-clause-sound
returns-clause-sound c =
    drops-sound c.args.inst.now c.args.plan.now c.args.leg c.loop-count.all.items _ c.requires.leg c.loop-count.invariant.all

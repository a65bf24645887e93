use Rattle.desk_eval.proofs.BackLaws.{after-itself}
use Rattle.desk_eval.proofs.changes.set_groups.Goals as goal

pub set_counted_groups-requires-clause-groups : goal.set_counted_groups-requires-clause-groups
set_counted_groups-requires-clause-groups c = (c.requires.whole c.in-Some.groups c.in-Some.is).sound

pub set_counted_groups-requires-clause-passengers : goal.set_counted_groups-requires-clause-passengers
set_counted_groups-requires-clause-passengers c = (c.requires.whole c.in-Some.groups c.in-Some.is).all

pub returns-in-None-clause-after : goal.returns-in-None-clause-after
returns-in-None-clause-after c = after-itself 1 c.args.eval.now

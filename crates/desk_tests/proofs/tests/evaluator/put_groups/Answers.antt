use Rattle.desk_tests.proofs.tests.evaluator.put_groups.Goals as goal

pub set_groups-requires-clause-groups : goal.set_groups-requires-clause-groups
set_groups-requires-clause-groups _ c = (c.requires.whole c.in-Some.groups c.in-Some.is).sound

pub set_groups-requires-clause-passengers : goal.set_groups-requires-clause-passengers
set_groups-requires-clause-passengers _ c = (c.requires.whole c.in-Some.groups c.in-Some.is).all

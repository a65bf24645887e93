use Rattle.near_dear.proofs.DropTableLaws.{groups-room}
use Rattle.near_dear.proofs.owed.add_groups.Goals as goal

pub add_group-requires-clause-room : goal.add_group-requires-clause-room
add_group-requires-clause-room c = λ x.
    groups-room c.args.inst.now c.args.res.0 x c.loop-group.group-index c.args.owed.now.items c.loop-group.owed.items c.args.groups.now c.group-item.result
    c.loop-group-test.true c.group-item.is (c.loop-group.invariant.grown x) (c.requires.room x)

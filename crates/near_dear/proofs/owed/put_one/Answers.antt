use Rattle.std.proofs.Common.{ap, arith}
use Rattle.std.specs.Prelude.{sum_by}
use Rattle.near_dear.specs.Owed.{owed_by}
use Rattle.near_dear.proofs.DropTableLaws.{groups-fit, owed-more, reservation-room}
use Rattle.near_dear.proofs.owed.put_one.Goals as goal

pub add_groups-requires-clause-groups : goal.add_groups-requires-clause-groups
add_groups-requires-clause-groups c =
    let I = c.args.inst.now in
    let P = c.args.plan.now in
    rw c.groups.ensures.groups (groups-fit I P c.args.res.0 c.parts-rows.ensures.valid c.requires.plan c.requires.res)

pub add_groups-requires-clause-room : goal.add_groups-requires-clause-room
add_groups-requires-clause-room c = λ x.
    (let I = c.args.inst.now in
    let P = c.args.plan.now in
    let r = c.args.res.0 in
    let room = reservation-room I P c.args.owed.now.items r x c.parts-rows.ensures.valid c.requires.plan c.requires.res c.requires.owed in
    let same = ap (sum_by (owed_by I x r)) c.groups.ensures.groups in
    omega (arith, room, same))

pub returns : goal.returns
returns c =
    let I = c.args.inst.now in
    let P = c.args.plan.now in
    let r = c.args.res.0 in
    owed-more I P c.args.owed.now.items c.add_groups.new.owed.items r c.requires.owed c.add_groups.ensures.legs
    (λ x. (let grown = c.add_groups.ensures.grown x in let same = ap (sum_by (owed_by I x r)) c.groups.ensures.groups in omega (arith, grown, same)))

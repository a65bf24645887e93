use Rattle.std.proofs.Common.{◌≡◌, get_or, ap, ◌∙◌, arith}
use Rattle.desk_data.proofs.RoomLemmas.{carried_of, left_none}
use Rattle.desk_data.proofs.room.left_of.Goals as goal

pub returns-then-left-carried : goal.returns-then-left-carried
returns-then-left-carried c =
    let frozen = c.args.frozen.now in
    let groups = c.args.groups.now in
    let legs = c.args.legs.now in
    let i = c.loop-group.group-index in
    let group = c.group-item.result in
    let is : c.carried_by-carried.result ≡ carried_of frozen legs (get_or groups i group) = c.carried_by-carried.ensures ∙ ap (carried_of frozen legs) c.group-item.is in
    left_none frozen groups legs i group c.args.count c.loop-group.left c.loop-group-test.true c.loop-group.invariant (omega (arith, is, c.if-left-carried.true))

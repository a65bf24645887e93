use Rattle.std.proofs.Common.{◌≡◌, ap, arith, length}
use Rattle.std.specs.Vec.{vec_capacity}
use Rattle.ferry_legs.proofs.MoreLaws.{has_place}
use Rattle.ferry_legs.proofs.times.FerryTimes.add.Goals as goal

pub push_reserved-requires : goal.push_reserved-requires
push_reserved-requires c =
    let t = c.args.self.now in
    let items : c.self.inside.added.items ≡ t.added = ap (λ t. t.added) c.self.view_is in
    let room : vec_capacity c.self.inside.added ≡ t.room = ap (λ t. t.room) c.self.view_is in
    let place = has_place c.args.inst.now c.args.plan.now t.added c.args.leg c.requires.added in
    omega (arith, c.self.inside.added.ok.0, ap length items, room, place, c.requires.times.room)

use Rattle.std.proofs.Common.{◌≡◌, true, arith, rules}
use Rattle.near_dear.specs.Restored.{legs_with}
use Rattle.near_dear.proofs.RestoreTableLaws.{own-paid, booked-paid}
use Rattle.near_dear.proofs.dear_restore.is_dear_restore.Goals as goal

pub returns : goal.returns
returns c = λ known.
    (let I = c.args.inst.now in
    let P = c.args.plan.now in
    let p = c.args.plane.0 in
    let legs = legs_with c.args.leg.0 c.args.back in
    let amounts = c.requires.payments.amounts in
    let off : c.are_cancelled.result ≡ true = search rules in
    let cost = c.flying_cost-cost.ensures in
    let saved = c.requires.saved in
    let saves = c.save_at_most.ensures known in
    let own = own-paid I P c.args.payments.now.on.items c.args.payments.now.booked.items amounts p c.args.at.0 c.args.own.now c.requires.own in
    let booked = booked-paid I P c.args.payments.now.on.items c.args.payments.now.booked.items amounts legs in
    record {
      gone = c.are_cancelled.ensures.gone off;
      apart = c.are_cancelled.ensures.apart off;
      dear = omega (arith, saves, saved, own, booked, cost);
    })

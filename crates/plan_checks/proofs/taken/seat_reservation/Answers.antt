use Rattle.std.proofs.Common.{◌≡◌, ◌<◌, ◌≤◌, length, ap, ◌∙◌, arith}
use Rattle.desk_data.specs.Situation.{res_at}
use Rattle.plan_checks.specs.TakenSeats.{all_of}
use Rattle.plan_checks.proofs.SeatLaws.{seated_more}
use Rattle.plan_checks.proofs.taken.seat_reservation.Goals as goal

pub returns : goal.returns
returns c =
    let I = c.args.inst.now in
    let P = c.args.plan.now in
    let r = c.args.res.0 in
    let groups = c.groups.result.now in
    let booked : c.res.result.now.count ≡ (res_at I r).count = ap (λ info. info.count) c.res.ensures.row in
    let all : all_of groups ≡ (res_at I r).count = ap all_of c.groups.ensures.groups ∙ (c.requires.plan.groups r c.requires.res).all in
    let few : all_of groups ≤ 1000 = omega (arith, all, booked, c.res.ensures.ranges.count) in
    let lt : r < length P.groups = omega (arith, c.requires.plan.res, c.requires.res) in
    seated_more I P r c.args.taken.now c.seat_groups.new.taken groups c.seat_groups.auto.taken c.groups.ensures.groups lt few c.requires.so_far c.seat_groups.ensures

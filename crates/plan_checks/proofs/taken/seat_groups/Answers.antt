use Rattle.std.proofs.Common.{◌<◌, length, sym, arith, ◌+◌, ◌≤◌, take, subst}
use Rattle.desk_data.specs.declared.row.Group.{Group}
use Rattle.desk_rules.specs.Passengers.{aboard_of}
use Rattle.plan_checks.specs.TakenSeats.{all_of}
use Rattle.plan_checks.proofs.SeatLaws.{room_more}
use Rattle.plan_checks.proofs.taken.seat_groups.Goals as goal

pub seat_path-requires-clause-room : goal.seat_path-requires-clause-room
seat_path-requires-clause-room c = λ x a.
    let groups = c.args.groups.now in
    let i = c.loop-group.group-index in
    let group = c.group-item.result in
    let lt : i < length groups = omega arith in
    let few : aboard_of x a (take i groups) + group.count ≤ all_of groups = subst (λ (g : Group). aboard_of x a (take i groups) + g.count ≤ all_of groups) (sym c.group-item.is) (room_more x a groups i group lt) in
    omega (arith, c.loop-group.invariant x a, c.requires.room x a, few)

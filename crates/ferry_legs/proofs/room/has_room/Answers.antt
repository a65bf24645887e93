use Rattle.std.proofs.Common.{rules, ◌≡◌, ◌+◌, ◌-◌, ltb, ap, sym, ◌∙◌}
use Rattle.std.specs.Prelude.{Some}
use Rattle.std.proofs.lemmas.Bool.{le-ltb}
use Rattle.ferry_legs.specs.Departs.{cap_of, count_of, has_room}
use Rattle.ferry_legs.specs.Taken.{added_taken}
use Rattle.ferry_legs.proofs.RoomLaws.{late_room, room_is, full_plan, left_room}
use Rattle.ferry_legs.proofs.room.has_room.Goals as goal

pub returns-then-hour-ge-HOURS : goal.returns-then-hour-ge-HOURS
returns-then-hour-ge-HOURS c =
    late_room c.args.inst.now c.args.plan.now c.args.taken.added.now c.args.taken.movement c.args.airport.0 c.args.hour (search rules)

pub returns-then-planned-cap : goal.returns-then-planned-cap
returns-then-planned-cap c =
    let I = c.args.inst.now in
    let P = c.args.plan.now in
    let A = c.args.taken.added.now in
    let m = c.args.taken.movement in
    let a = c.args.airport.0 in
    let h = c.args.hour in
    let some : cap_of m I a h ≡ Some c.in-Some.cap = search rules in
    let planned : c.at-planned.result ≡ count_of m I P a h = c.at-planned.ensures ∙ c.requires.taken.table a h in
    let room : has_room I P A m a h ≡ ltb (c.at-planned.result + added_taken I P m a h A) c.in-Some.cap =
    room_is I P A m a h c.in-Some.cap c.at-planned.result c.requires.plan.legs c.requires.taken.added (search rules) some planned in
    ap (λ k. ltb k (c.in-Some.cap - c.at-planned.result)) c.added_taken.ensures
    ∙ sym (left_room c.at-planned.result (added_taken I P m a h A) c.in-Some.cap (search rules))
    ∙ sym room

pub returns-else-planned-cap : goal.returns-else-planned-cap
returns-else-planned-cap c =
    let I = c.args.inst.now in
    let P = c.args.plan.now in
    let A = c.args.taken.added.now in
    let m = c.args.taken.movement in
    let a = c.args.airport.0 in
    let h = c.args.hour in
    let some : cap_of m I a h ≡ Some c.in-Some.cap = search rules in
    let planned : c.at-planned.result ≡ count_of m I P a h = c.at-planned.ensures ∙ c.requires.taken.table a h in
    let room : has_room I P A m a h ≡ ltb (c.at-planned.result + added_taken I P m a h A) c.in-Some.cap =
    room_is I P A m a h c.in-Some.cap c.at-planned.result c.requires.plan.legs c.requires.taken.added (search rules) some planned in
    le-ltb c.at-planned.result c.in-Some.cap c.if-planned-cap.false
    ∙ sym (full_plan c.at-planned.result (added_taken I P m a h A) c.in-Some.cap (search rules))
    ∙ sym room

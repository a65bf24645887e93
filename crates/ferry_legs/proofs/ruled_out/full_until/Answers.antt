use Rattle.std.proofs.Common.{◌≡◌, ◌+◌, ◌*◌, ◌-◌, ◌/◌, ap, sym, ◌∙◌}
use Rattle.std.proofs.lemmas.Bool.{and_from}
use Rattle.hour_counts.specs.declared.slot.Movement.TheVariants.{Departure, Arrival}
use Rattle.ferry_legs.specs.Departs.{has_room, has_slot}
use Rattle.ferry_legs.proofs.RuledOutLaws.{second_out, full_lands}
use Rattle.ferry_legs.proofs.ruled_out.full_until.Goals as goal

pub returns-then-not-has_room-2 : goal.returns-then-not-has_room-2
returns-then-not-has_room-2 c =
    let I = c.args.inst.now in
    let P = c.args.plan.now in
    let A = c.args.asked.departures.added.now in
    let way = c.args.asked.way in
    let at = c.args.at in
    let h = (at + way.minutes) / 60 in
    let is : c.has_room-2.result ≡ has_room I P A Arrival way.dest.0 h =
    c.has_room-2.ensures
    ∙ ap (λ m. has_room I P c.args.asked.arrivals.added.now m way.dest.0 h) c.requires.asked.lands
    ∙ ap (λ B. has_room I P B Arrival way.dest.0 h) c.requires.asked.same in
    second_out (has_slot I P A Departure way) (has_slot I P A Arrival way) at (60 * (h + 1) - way.minutes)
    (full_lands I P A way at (sym is ∙ c.if-not-has_room-2.true))

pub returns : goal.returns
returns c =
    let I = c.args.inst.now in
    let P = c.args.plan.now in
    let A = c.args.asked.departures.added.now in
    let way = c.args.asked.way in
    let at = c.args.at in
    let h = (at + way.minutes) / 60 in
    let first : c.has_room.result ≡ has_room I P A Departure way.origin.0 (at / 60) =
    c.has_room.ensures ∙ ap (λ m. has_room I P A m way.origin.0 (at / 60)) c.requires.asked.leaves in
    let second : c.has_room-2.result ≡ has_room I P A Arrival way.dest.0 h =
    c.has_room-2.ensures
    ∙ ap (λ m. has_room I P c.args.asked.arrivals.added.now m way.dest.0 h) c.requires.asked.lands
    ∙ ap (λ B. has_room I P B Arrival way.dest.0 h) c.requires.asked.same in
    and_from (has_slot I P A Departure way at) (has_slot I P A Arrival way at) (sym first ∙ c.if-not-has_room.false) (sym second ∙ c.if-not-has_room-2.false)

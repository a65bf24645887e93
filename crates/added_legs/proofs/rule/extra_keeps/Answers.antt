use Rattle.std.proofs.Common.{◌≡◌, length, get_or, sym, ap, ◌∙◌}
use Rattle.std.specs.Prelude.{None}
use Rattle.desk_data.specs.Situation.{legs_of}
use Rattle.plan_reads.specs.Last.{IsLastOf}
use Rattle.plan_reads.proofs.LastLaws.{last_in}
use Rattle.added_legs.specs.Flights.{departure_end}
use Rattle.added_legs.specs.Asked.{c4_added, c5_added, c6_added, c7_added}
use Rattle.added_legs.proofs.FlightLaws.{added_some, added_none, earlier_of}
use Rattle.added_legs.proofs.AskedLaws.{none_keeps, c4_new, c5_new, c6_new, c7_new}
use Rattle.added_legs.proofs.rule.extra_keeps.Goals as goal

pub c5_added-requires-clause-earlier : goal.c5_added-requires-clause-earlier
c5_added-requires-clause-earlier c =
    let I = c.args.inst.now in
    let P = c.args.plan.now in
    let A = c.args.known.added.now in
    let flights = c.args.known.flights.now in
    let p = c.args.plane.0 in
    let all : length P.rows ≡ legs_of I = c.requires.plan.legs in
    let valid = c.parts-rows.ensures.valid in
    let g = c.requires.known.flights in
    let e = get_or c.args.known.earlier.now p None in
    let last : IsLastOf P p (departure_end (get_or flights p None)) (legs_of I) e = c.requires.known.earlier.each p c.requires.plane in
    last_in I P p (departure_end (get_or flights p None)) e last

pub c6_added-requires-clause-earlier : goal.c6_added-requires-clause-earlier
c6_added-requires-clause-earlier c =
    let I = c.args.inst.now in
    let P = c.args.plan.now in
    let A = c.args.known.added.now in
    let flights = c.args.known.flights.now in
    let p = c.args.plane.0 in
    let all : length P.rows ≡ legs_of I = c.requires.plan.legs in
    let valid = c.parts-rows.ensures.valid in
    let g = c.requires.known.flights in
    let e = get_or c.args.known.earlier.now p None in
    let last : IsLastOf P p (departure_end (get_or flights p None)) (legs_of I) e = c.requires.known.earlier.each p c.requires.plane in
    last_in I P p (departure_end (get_or flights p None)) e last

pub returns-in-C4Range : goal.returns-in-C4Range
returns-in-C4Range c =
    let I = c.args.inst.now in
    let P = c.args.plan.now in
    let A = c.args.known.added.now in
    let flights = c.args.known.flights.now in
    let p = c.args.plane.0 in
    let all : length P.rows ≡ legs_of I = c.requires.plan.legs in
    let valid = c.parts-rows.ensures.valid in
    let g = c.requires.known.flights in
    let one = added_some I P A flights p c.in-Some.flight g c.requires.plane c.in-Some.is in
    rw c.in-C4Range.is (c.c4_added.ensures ∙ ap (c4_added I p) one.2 ∙ sym (c4_new I P A valid all flights g p one.0 c.requires.plane one.1))

pub returns-in-C7Service : goal.returns-in-C7Service
returns-in-C7Service c =
    let I = c.args.inst.now in
    let P = c.args.plan.now in
    let A = c.args.known.added.now in
    let flights = c.args.known.flights.now in
    let p = c.args.plane.0 in
    let all : length P.rows ≡ legs_of I = c.requires.plan.legs in
    let valid = c.parts-rows.ensures.valid in
    let g = c.requires.known.flights in
    let one = added_some I P A flights p c.in-Some.flight g c.requires.plane c.in-Some.is in
    rw c.in-C7Service.is (c.c7_added.ensures ∙ ap (c7_added I p) one.2 ∙ sym (c7_new I P A valid all flights g p one.0 c.requires.plane one.1))

pub returns-in-C5Location : goal.returns-in-C5Location
returns-in-C5Location c =
    let I = c.args.inst.now in
    let P = c.args.plan.now in
    let A = c.args.known.added.now in
    let flights = c.args.known.flights.now in
    let p = c.args.plane.0 in
    let all : length P.rows ≡ legs_of I = c.requires.plan.legs in
    let valid = c.parts-rows.ensures.valid in
    let g = c.requires.known.flights in
    let one = added_some I P A flights p c.in-Some.flight g c.requires.plane c.in-Some.is in
    let e = get_or c.args.known.earlier.now p None in
    let last : IsLastOf P p (departure_end (get_or flights p None)) (legs_of I) e = c.requires.known.earlier.each p c.requires.plane in
    rw c.in-C5Location.is (c.c5_added.ensures ∙ ap (c5_added I p e) one.2 ∙ sym (c5_new I P A valid all flights g p one.0 e c.requires.plane one.1 (earlier_of I P A flights p one.0 e g c.requires.plane one.1 c.in-Some.flight c.in-Some.is last)))

pub returns-in-C6GroundTime : goal.returns-in-C6GroundTime
returns-in-C6GroundTime c =
    let I = c.args.inst.now in
    let P = c.args.plan.now in
    let A = c.args.known.added.now in
    let flights = c.args.known.flights.now in
    let p = c.args.plane.0 in
    let all : length P.rows ≡ legs_of I = c.requires.plan.legs in
    let valid = c.parts-rows.ensures.valid in
    let g = c.requires.known.flights in
    let one = added_some I P A flights p c.in-Some.flight g c.requires.plane c.in-Some.is in
    let e = get_or c.args.known.earlier.now p None in
    let last : IsLastOf P p (departure_end (get_or flights p None)) (legs_of I) e = c.requires.known.earlier.each p c.requires.plane in
    rw c.in-C6GroundTime.is (c.c6_added.ensures ∙ ap (c6_added I P p e) one.2 ∙ sym (c6_new I P A valid all flights g p one.0 e c.requires.plane one.1 (earlier_of I P A flights p one.0 e g c.requires.plane one.1 c.in-Some.flight c.in-Some.is last)))

pub returns-in_default : goal.returns-in_default
returns-in_default c =
    let I = c.args.inst.now in
    let P = c.args.plan.now in
    let A = c.args.known.added.now in
    let flights = c.args.known.flights.now in
    let p = c.args.plane.0 in
    let g = c.requires.known.flights in
    sym (none_keeps I P A c.parts-rows.ensures.valid c.requires.plan.legs flights g c.args.rule p c.requires.plane (added_none I P A flights p g c.requires.plane c.in_default.is))

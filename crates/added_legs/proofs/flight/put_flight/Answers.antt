use Rattle.std.proofs.Common.{get_or}
use Rattle.std.specs.Prelude.{None}
use Rattle.std.proofs.lemmas.List.{get_or_default}
use Rattle.added_legs.specs.declared.added.Added.{Added}
use Rattle.added_legs.proofs.FlightLaws.{none_is, some_is, kept, written}
use Rattle.added_legs.proofs.flight.put_flight.Goals as goal

pub returns-then-is_none : goal.returns-then-is_none
returns-then-is_none c =
    let I = c.args.inst.now in
    let A = c.args.added.now in
    let i = c.args.i in
    let flights = c.args.flights.now in
    let zero : Added = record { plane = record { 0 = 0 }; dest = record { 0 = 0 }; dep = record { 0 = 0 } } in
    let a : Added = get_or A i zero in
    written I c.args.plan.now A i a flights c.flight_of.result c.requires.place (get_or_default A i zero a c.requires.place) (c.requires.added.each i zero c.requires.place).aircraft
    (none_is (get_or flights a.plane.0 None) c.is_none.result c.is_none.ensures c.if-is_none.true)
    c.flight_of.ensures.flight c.flight_of.ensures.ranges c.requires.so_far

pub returns-else-is_none : goal.returns-else-is_none
returns-else-is_none c =
    let I = c.args.inst.now in
    let A = c.args.added.now in
    let i = c.args.i in
    let flights = c.args.flights.now in
    let zero : Added = record { plane = record { 0 = 0 }; dest = record { 0 = 0 }; dep = record { 0 = 0 } } in
    let a : Added = get_or A i zero in
    let had = some_is (get_or flights a.plane.0 None) c.is_none.result c.is_none.ensures c.if-is_none.false in
    kept I c.args.plan.now A i a flights had.0 c.requires.place (get_or_default A i zero a c.requires.place) (c.requires.added.each i zero c.requires.place).aircraft had.1 c.requires.so_far

use Rattle.std.proofs.Common.{◌≡◌, List, length, drop, sym, subst, arith}
use Rattle.std.specs.Prelude.{Option}
use Rattle.std.proofs.lemmas.List.{take_at}
use Rattle.added_legs.specs.declared.flight.Flight.{Flight}
use Rattle.added_legs.specs.Flights.{AreFlights}
use Rattle.added_legs.proofs.least.flights_of.Goals as goal

pub returns : goal.returns
returns c =
    let made = c.put_flights.new.flights in
    let long : length made ≡ c.in_ok-flights.flights.len = omega (arith, c.put_flights.ensures.flights.ranges.planes, c.planes-planes.ensures.count, c.in_ok-flights.ensures.len) in
    subst (λ (flights : List (Option Flight)). AreFlights c.args.inst.now c.args.plan.now c.args.added.now flights)
    (sym (take_at made (drop (length made) c.in_ok-flights.flights.items) c.in_ok-flights.flights.len long)) c.put_flights.ensures.flights

use Rattle.std.proofs.Common.{take}
use Rattle.added_legs.specs.Flights.{AreFlights}
use Rattle.added_legs.proofs.flight.put_flights.Given as goal

-- the added legs of the list so far
abbrev pub invariant-loop-i : goal.invariant-loop-i
invariant-loop-i l = AreFlights l.inst l.plan (take l.i l.added) l.flights

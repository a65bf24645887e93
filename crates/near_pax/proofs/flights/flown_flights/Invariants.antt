use Rattle.std.proofs.Common.{◌≡◌}
use Rattle.near_pax.specs.Flights.{flights_of}
use Rattle.near_pax.proofs.flights.flown_flights.Given as goal

abbrev pub invariant-loop-x : goal.invariant-loop-x
invariant-loop-x l = l.flights.items ≡ flights_of l.inst l.plan l.x

use Rattle.std.proofs.Common.{◌≡◌, map}
use Rattle.desk_rules.specs.Numbers.{numbers}
use Rattle.near_pax.specs.Onward.{leads_on}
use Rattle.near_pax.proofs.flights.FlightNet.onward.Given as goal

abbrev pub invariant-loop-a : goal.invariant-loop-a
invariant-loop-a l = l.onward.items ≡ map (leads_on l.inst l.plan l.sought l.dest) (numbers l.a)

use Rattle.std.proofs.Common.{◌≡◌, map, take}
use Rattle.std.specs.Prelude.{filter}
use Rattle.near_pax.specs.Sought.{is_sought}
use Rattle.near_pax.proofs.sought.picked.Given as goal

abbrev pub invariant-loop-flight : goal.invariant-loop-flight
invariant-loop-flight l = l.legs.items ≡ map (λ flight. flight.leg) (filter (λ flight. is_sought l.inst l.plan l.sought flight.leg.0) (take l.flight-index l.flights))

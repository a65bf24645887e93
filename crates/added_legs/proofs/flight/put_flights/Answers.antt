use Rattle.std.proofs.Common.{◌∙◌, arith}
use Rattle.added_legs.proofs.FlightLaws.{are_last, no_flights}
use Rattle.added_legs.proofs.flight.put_flights.Goals as goal

pub loop-i-init : goal.loop-i-init
loop-i-init c =
    no_flights c.args.inst.now c.args.plan.now c.clear.new.flights (c.clear.ensures.len ∙ c.requires.flights)
    (λ p lt. c.clear.ensures.none p (omega (arith, lt, c.requires.flights)))

pub put_flight-requires-clause-lasts : goal.put_flight-requires-clause-lasts
put_flight-requires-clause-lasts c = are_last c.args.inst.now c.args.plan.now c.put_lasts.new.lasts c.requires.plan c.put_lasts.ensures

pub returns-clause-lasts : goal.returns-clause-lasts
returns-clause-lasts c = are_last c.args.inst.now c.args.plan.now c.put_lasts.new.lasts c.requires.plan c.put_lasts.ensures

use Rattle.std.proofs.Common.{arith}
use Rattle.desk_rules.proofs.CostLaws.{by_hour-le}
use Rattle.added_legs.proofs.operating.flight_cost.Goals as goal

pub returns-in-Some-clause-limit : goal.returns-in-Some-clause-limit
returns-in-Some-clause-limit c =
    let f = c.in-Some.flight in
    omega (
      arith,
      c.per_hour.ensures,
      c.from.ensures,
      by_hour-le c.weight-weight.result.0 c.plane.result.now.hourly.0 c.from.result c.weight-weight.ensures.limit c.plane.ensures.ranges.hourly,
      (c.requires.flight f c.in-Some.is).short,
    )

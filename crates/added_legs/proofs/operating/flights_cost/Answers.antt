use Rattle.std.proofs.Common.{◌≡◌, get_or, ap, arith}
use Rattle.std.specs.Prelude.{None}
use Rattle.desk_rules.proofs.CostLaws.{sum-more}
use Rattle.added_legs.specs.Stands.{flight_cost}
use Rattle.added_legs.proofs.operating.flights_cost.Goals as goal

pub plus-total-requires : goal.plus-total-requires
plus-total-requires c = omega (arith, c.loop-p.invariant.limit, c.flight_cost.ensures.limit, c.loop-p-test.true, c.planes-p-end.ensures.limit)

pub loop-p-preserved : goal.loop-p-preserved
loop-p-preserved c =
    let I = c.args.inst.now in
    let flights = c.args.flights.now in
    let one : c.flight_cost.result.0 ≡ flight_cost I c.loop-p.p (get_or flights c.loop-p.p None) = ap (λ g. g.0) c.flight_cost.ensures.cost in
    record {
      cost = omega (arith, c.plus-total.ensures, one, c.loop-p.invariant.cost, sum-more (λ p. flight_cost I p (get_or flights p None)) c.loop-p.p);
      limit = omega (arith, c.plus-total.ensures, c.loop-p.invariant.limit, c.flight_cost.ensures.limit);
    }

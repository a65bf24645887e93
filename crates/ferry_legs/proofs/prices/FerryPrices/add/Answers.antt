use Rattle.std.proofs.Common.{◌≡◌, ◌+◌, map, sym, subst, arith}
use Rattle.added_legs.specs.Added.{cost_added}
use Rattle.added_legs.specs.Ferried.{with_added}
use Rattle.ferry_legs.specs.Prices.{IsPricesOf}
use Rattle.ferry_legs.proofs.CostLaws.{added-room}
use Rattle.ferry_legs.proofs.StepLaws.{end_is, end_within, positions_after, few_after}
use Rattle.ferry_legs.proofs.prices.FerryPrices.add.Goals as goal

pub come-requires-clause-few : goal.come-requires-clause-few
come-requires-clause-few g c =
    let I = c.args.inst.now in
    let P = c.args.plan.now in
    let prices = subst (IsPricesOf I P g.added) (sym c.self.view_is) c.requires.1.0 in
    few_after I P g.added c.plane-plane.result.now c.index-from.result.now.0 c.args.leg.dest.0 (map (λ rows. rows.items) c.self.inside.airports.items) (map (λ rows. rows.items) c.leave.new.airports.items)
    c.parts-rows.ensures.valid
    (end_within I P c.self.inside.ends.items c.args.leg.plane.0 c.index-from.result.now prices.ends c.requires.1.1.0.aircraft c.index-from.ensures)
    c.requires.1.1.0.airport c.leave.ensures prices.positions

pub overflow_add-self : goal.overflow_add-self
overflow_add-self g c =
    let I = c.args.inst.now in
    let P = c.args.plan.now in
    let prices = subst (IsPricesOf I P g.added) (sym c.self.view_is) c.requires.1.0 in
    omega (arith, prices.cost, added-room I P g.added c.parts-rows.ensures.valid c.requires.0, c.change-change.ensures.limit)

pub returns : goal.returns
returns g c =
    let I = c.args.inst.now in
    let P = c.args.plan.now in
    let leg = c.args.leg in
    let prices = subst (IsPricesOf I P g.added) (sym c.self.view_is) c.requires.1.0 in
    let change : cost_added I P (with_added g.added leg) + c.change-change.result.less.0 ≡ cost_added I P g.added + c.change-change.result.more.0 = c.change-change.ensures.change leg.dep c.requires.1.1.1.1 in
    record {
      ends = prices.ends;
      positions = positions_after I P c.requires.0 g.added leg c.requires.1.1.0.aircraft c.requires.1.1.0.air c.requires.1.1.1.0 c.requires.1.1.1.1 c.index-from.result.now c.plane-plane.result.now (map (λ rows. rows.items) c.self.inside.airports.items) (map (λ rows. rows.items) c.leave.new.airports.items) (map (λ rows. rows.items) c.come.new.airports.items)
          (end_is I P c.self.inside.ends.items leg.plane.0 c.index-from.result.now prices.ends c.requires.1.1.0.aircraft c.index-from.ensures)
          c.plane-plane.ensures.row
          (end_within I P c.self.inside.ends.items leg.plane.0 c.index-from.result.now prices.ends c.requires.1.1.0.aircraft c.index-from.ensures)
          c.requires.1.1.0.airport c.leave.ensures c.come.ensures prices.positions;
      cost = omega (arith, change, prices.cost);
    }

use Rattle.std.proofs.Common.{ap, sym, ◌∙◌}
use Rattle.added_legs.proofs.EmptyLaws.{same_cost}
use Rattle.ferry_legs.proofs.prices.FerryPrices.of.Goals as goal

pub returns : goal.returns
returns c = record {
  ends = c.in_ok-ends.ensures;
  positions = c.in_ok-airports.ensures;
  cost = ap (λ g. g.0) c.full_cost-cost.ensures.cost ∙ sym (same_cost c.args.inst.now c.args.plan.now c.parts-rows.ensures.valid c.requires.legs);
}

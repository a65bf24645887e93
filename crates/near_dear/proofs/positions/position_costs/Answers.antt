use Rattle.std.proofs.Common.{◌≡◌, ap, sym, ◌∙◌}
use Rattle.desk_units.specs.declared.tariff.Term.TheVariants as term
use Rattle.tariff_prices.specs.Prices.{position_price, weight_of}
use Rattle.desk_rules.specs.Cost.{weight, rows_of, by_item}
use Rattle.near_priced.proofs.FlyingLaws.{positions-is}
use Rattle.near_dear.specs.Stands.{gaps_now, gaps_then}
use Rattle.near_dear.proofs.AtLaws.{priced}
use Rattle.near_dear.proofs.positions.position_costs.Goals as goal

pub returns-clause-now : goal.returns-clause-now
returns-clause-now c =
    let I = c.args.inst.now in
    let P = c.args.plan.now in
    let w = c.weight-weight.result.0 in
    let p = c.position-price.result.0 in
    let price : p ≡ position_price (rows_of I) = c.position-price.ensures.price ∙ ap position_price c.prices-2.ensures in
    let weighed : w ≡ weight I term.Position = c.weight-weight.ensures.weight ∙ ap (λ rows. weight_of rows term.Position) c.prices.ensures in
    c.per_item.ensures ∙ ap (by_item w p) c.all_gaps-gaps.ensures.now ∙ ap (λ k. by_item k p (gaps_now I P)) weighed ∙ ap (λ k. by_item (weight I term.Position) k (gaps_now I P)) price ∙ sym (positions-is I P)

pub returns-clause-then : goal.returns-clause-then
returns-clause-then c =
    let I = c.args.inst.now in
    let P = c.args.plan.now in
    let a = c.args.planes.0.0 in
    let b = c.args.planes.1.0 in
    let at = c.args.at in
    let w = c.weight-weight.result.0 in
    let p = c.position-price.result.0 in
    let price : p ≡ position_price (rows_of I) = c.position-price.ensures.price ∙ ap position_price c.prices-2.ensures in
    let weighed : w ≡ weight I term.Position = c.weight-weight.ensures.weight ∙ ap (λ rows. weight_of rows term.Position) c.prices.ensures in
    c.per_item-2.ensures ∙ ap (by_item w p) c.all_gaps-gaps.ensures.then ∙ ap (λ k. by_item k p (gaps_then I P a b at)) weighed ∙ ap (λ k. by_item (weight I term.Position) k (gaps_then I P a b at)) price ∙ sym (priced I P a b at)

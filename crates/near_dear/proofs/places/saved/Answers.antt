use Rattle.std.proofs.Common.{◌≡◌, ap, ◌∙◌, arith}
use Rattle.desk_units.specs.declared.tariff.Term.TheVariants as term
use Rattle.tariff_prices.specs.Prices.{position_price, weight_of}
use Rattle.desk_rules.specs.Cost.{weight, rows_of, by_item}
use Rattle.near_dear.specs.Drops.{places_for}
use Rattle.near_dear.proofs.StepLaws.{saved-le}
use Rattle.near_dear.proofs.places.saved.Goals as goal

pub returns : goal.returns
returns c =
    let I = c.args.inst.now in
    let P = c.args.plan.now in
    let p = c.args.plane.0 in
    let w = c.weight-weight.result.0 in
    let price = c.position.result.0 in
    let n = c.places_for-count.result in
    let priced : price ≡ position_price (rows_of I) = c.position.ensures.price ∙ ap position_price c.prices-2.ensures in
    let weighed : w ≡ weight I term.Position = c.weight-weight.ensures.weight ∙ ap (λ rows. weight_of rows term.Position) c.prices.ensures in
    let cost : c.per_item.result.0 ≡ by_item (weight I term.Position) (position_price (rows_of I)) (places_for I P p) =
    c.per_item.ensures ∙ ap (λ k. by_item k price n) weighed ∙ ap (λ k. by_item (weight I term.Position) k n) priced ∙ ap (by_item (weight I term.Position) (position_price (rows_of I))) c.places_for-count.ensures.is in
    omega (arith, cost, saved-le I P p)

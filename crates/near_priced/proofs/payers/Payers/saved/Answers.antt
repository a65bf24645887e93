use Rattle.std.proofs.Common.{◌≡◌, ◌*◌, ap, ◌∙◌, arith}
use Rattle.std.proofs.Math.Nat.{mul-le-mul_left}
use Rattle.desk_units.specs.declared.tariff.Term.TheVariants as term
use Rattle.tariff_prices.specs.Prices.{position_price, weight_of}
use Rattle.desk_rules.specs.Cost.{weight, rows_of, by_item}
use Rattle.near_priced.proofs.payers.Payers.saved.Goals as goal

pub returns : goal.returns
returns c =
    let I = c.args.inst.now in
    let w = c.weight-weight.result.0 in
    let p = c.position.result.0 in
    let n = c.services_of_both-count.result in
    let price : p ≡ position_price (rows_of I) = c.position.ensures.price ∙ ap position_price c.prices-2.ensures in
    let weighed : w ≡ weight I term.Position = c.weight-weight.ensures.weight ∙ ap (λ rows. weight_of rows term.Position) c.prices.ensures in
    let cost : c.per_item.result.0 ≡ by_item (weight I term.Position) (position_price (rows_of I)) n =
    c.per_item.ensures ∙ ap (λ k. by_item k p n) weighed ∙ ap (λ k. by_item (weight I term.Position) k n) price in
    let less = mul-le-mul_left (60 * weight I term.Position * position_price (rows_of I)) c.services_of_both-count.ensures.count in
    omega (arith, less, cost)

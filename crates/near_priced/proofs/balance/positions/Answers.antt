use Rattle.std.proofs.Common.{◌≡◌, ap, sym, ◌∙◌, arith}
use Rattle.desk_units.specs.declared.tariff.Term.TheVariants as term
use Rattle.tariff_prices.specs.Prices.{position_price, weight_of}
use Rattle.desk_rules.specs.Cost.{weight, rows_of, by_item, position_cost}
use Rattle.board_cost.proofs.MoveLaws.{positions-le}
use Rattle.near_draft.specs.Drafts.{plan_of}
use Rattle.near_priced.specs.Tables.{lacking}
use Rattle.near_priced.proofs.FlyingLaws.{positions-is}
use Rattle.near_priced.proofs.balance.positions.Goals as goal

pub returns : goal.returns
returns c =
    let I = c.args.inst.now in
    let P = c.args.plan.now in
    let Q = plan_of c.args.draft.now in
    let w = c.weight-weight.result.0 in
    let p = c.position-price.result.0 in
    let price : p ≡ position_price (rows_of I) = c.position-price.ensures.price ∙ ap position_price c.prices-2.ensures in
    let weighed : w ≡ weight I term.Position = c.weight-weight.ensures.weight ∙ ap (λ rows. weight_of rows term.Position) c.prices.ensures in
    let is : position_cost I Q ≡ c.per_item.result.0 =
    positions-is I Q ∙ sym (c.per_item.ensures ∙ ap (by_item w p) c.all_lacks-lacks.ensures.is ∙ ap (λ k. by_item k p (lacking I Q)) weighed ∙ ap (λ k. by_item (weight I term.Position) k (lacking I Q)) price) in
    let was : position_cost I P ≡ c.per_item-2.result.0 =
    positions-is I P ∙ sym (c.per_item-2.ensures ∙ ap (by_item w p) c.all_lacks-lacks.ensures.was ∙ ap (λ k. by_item k p (lacking I P)) weighed ∙ ap (λ k. by_item (weight I term.Position) k (lacking I P)) price) in
    record {
      is = is;
      was = was;
      few_new = omega (arith, is, positions-le I Q c.parts-rows.ensures.valid);
      few_old = omega (arith, was, positions-le I P c.parts-rows.ensures.valid);
    }

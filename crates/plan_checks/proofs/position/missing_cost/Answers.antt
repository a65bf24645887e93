use Rattle.std.proofs.Common.{◌≡◌, ◌-◌, ◌<◌, length, get_or, ap, ◌∙◌, arith}
use Rattle.std.proofs.lemmas.List.Sums.{sum_by_more, sum_by_more_le, sum_by-take-le}
use Rattle.tariff_prices.specs.Prices.{position_price}
use Rattle.desk_rules.specs.Cost.{rows_of, by_item, at_hand, missing_aircraft}
use Rattle.desk_rules.proofs.CostLaws.{missing-sum-le}
use Rattle.plan_checks.proofs.StandLaws.{here_at_hand, here_below}
use Rattle.plan_checks.proofs.position.missing_cost.Goals as goal

pub at_hand-requires : goal.at_hand-requires
at_hand-requires g c = here_below c.args.inst.now c.put_stands.new.stands c.position-item.result.airport.0 c.gather_at-gathered.result.count c.gather_at-gathered.new.here c.gather_at-gathered.ensures.here

pub plus-total-requires : goal.plus-total-requires
unfolding missing_aircraft
plus-total-requires g c =
    let I = c.args.inst.now in
    let P = g.P.ReadPlan.plan_of c.args.plan.now in
    let position = c.position-item.result in
    let i = c.loop-position.position-index in
    let lt : i < length I.parts.positions = rw c.positions-position-items.ensures at c.loop-position-test.true in
    let is : position ≡ get_or I.parts.positions i position = rw c.positions-position-items.ensures at c.position-item.is in
    let items : c.saturating_sub-missing.result ≡ position.count - at_hand I P position = c.saturating_sub-missing.ensures ∙ ap (λ hand. position.count - hand) (c.at_hand.ensures ∙ here_at_hand I P c.put_stands.new.stands position c.gather_at-gathered.result.count c.gather_at-gathered.new.here c.put_stands.ensures c.gather_at-gathered.ensures.here) in
    let price : c.position-price.result.0 ≡ position_price (rows_of I) = c.position-price.ensures.price ∙ ap position_price c.prices.ensures in
    let one : c.per_item.result.0 ≡ missing_aircraft I P (get_or I.parts.positions i position) =
    c.per_item.ensures ∙ ap (by_item c.weight_of-weight.result.0 c.position-price.result.0) items
    ∙ ap (λ p. by_item c.weight_of-weight.result.0 p (position.count - at_hand I P position)) price
    ∙ ap (λ w. by_item w (position_price (rows_of I)) (position.count - at_hand I P position)) c.weight_of-weight.ensures.is
    ∙ ap (missing_aircraft I P) is in
    omega (arith, sum_by_more_le (missing_aircraft I P) I.parts.positions i position lt, missing-sum-le I P c.parts-rows.ensures.valid, one, c.loop-position.invariant.cost)

pub loop-position-preserved : goal.loop-position-preserved
unfolding missing_aircraft
loop-position-preserved g c =
    let I = c.args.inst.now in
    let P = g.P.ReadPlan.plan_of c.args.plan.now in
    let position = c.position-item.result in
    let i = c.loop-position.position-index in
    let lt : i < length I.parts.positions = rw c.positions-position-items.ensures at c.loop-position-test.true in
    let is : position ≡ get_or I.parts.positions i position = rw c.positions-position-items.ensures at c.position-item.is in
    let items : c.saturating_sub-missing.result ≡ position.count - at_hand I P position = c.saturating_sub-missing.ensures ∙ ap (λ hand. position.count - hand) (c.at_hand.ensures ∙ here_at_hand I P c.put_stands.new.stands position c.gather_at-gathered.result.count c.gather_at-gathered.new.here c.put_stands.ensures c.gather_at-gathered.ensures.here) in
    let price : c.position-price.result.0 ≡ position_price (rows_of I) = c.position-price.ensures.price ∙ ap position_price c.prices.ensures in
    let one : c.per_item.result.0 ≡ missing_aircraft I P (get_or I.parts.positions i position) =
    c.per_item.ensures ∙ ap (by_item c.weight_of-weight.result.0 c.position-price.result.0) items
    ∙ ap (λ p. by_item c.weight_of-weight.result.0 p (position.count - at_hand I P position)) price
    ∙ ap (λ w. by_item w (position_price (rows_of I)) (position.count - at_hand I P position)) c.weight_of-weight.ensures.is
    ∙ ap (missing_aircraft I P) is in
    record {
      cost = omega (arith, sum_by_more (missing_aircraft I P) I.parts.positions i position lt, c.plus-total.ensures, one, c.loop-position.invariant.cost);
      here = rw c.gather_at-gathered.ensures.airport c.gather_at-gathered.ensures.here;
    }

pub returns-clause-limit : goal.returns-clause-limit
returns-clause-limit g c =
    let I = c.args.inst.now in
    let P = g.P.ReadPlan.plan_of c.args.plan.now in
    omega (arith, sum_by-take-le (missing_aircraft I P) I.parts.positions c.loop-position.position-index, missing-sum-le I P c.parts-rows.ensures.valid, c.loop-position.invariant.cost)

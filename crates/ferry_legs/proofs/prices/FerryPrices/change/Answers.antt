use Rattle.std.proofs.Common.{◌≡◌, ◌≤◌, eqb, [], length, get_or, refl, sym, ap, subst, ◌∙◌, arith}
use Rattle.std.specs.Prelude.{unwrap_or}
use Rattle.std.proofs.lemmas.Bool.{eq-eqb, eqb-true}
use Rattle.std.proofs.lemmas.List.Sums.{count_by-le-length}
use Rattle.plan_reads.proofs.OrderLaws.{not_both}
use Rattle.added_legs.specs.Ferried.{added_leg}
use Rattle.ferry_legs.specs.Positions.{is_gained, is_lost}
use Rattle.ferry_legs.specs.Prices.{at_hand_with, missing_cost, IsPricesOf}
use Rattle.ferry_legs.proofs.StepLaws.{end_is, end_within, rows_few, change_here, change_apart}
use Rattle.ferry_legs.proofs.prices.FerryPrices.change.Goals as goal

pub returns-then-eq-clause-change : goal.returns-then-eq-clause-change
returns-then-eq-clause-change g c at time =
    let I = c.args.inst.now in
    let P = c.args.plan.now in
    let p = c.args.plane.0 in
    let from = c.index.result.now in
    let prices = subst (IsPricesOf I P g.added) (sym c.self.view_is) c.requires.1.0 in
    change_here I P c.requires.0 g.added (added_leg p c.args.dest.0 at) c.requires.1.1.0 c.requires.1.1.1.0 c.requires.1.1.1.1.1 time from c.unwrap_or-minutes.result c.flying_cost-flying.result.0
    (end_is I P c.self.inside.ends.items p from prices.ends c.requires.1.1.0 c.index.ensures)
    (c.unwrap_or-minutes.ensures ∙ ap (λ o. unwrap_or o 0) c.distance.ensures.value)
    c.flying_cost-flying.ensures.cost
    (eqb-true from.0 c.args.dest.0 (sym c.eq.ensures ∙ c.if-eq.true))

pub positions-requires : goal.positions-requires
positions-requires g c =
    let I = c.args.inst.now in
    let P = c.args.plan.now in
    let from = c.index.result.now in
    let prices = subst (IsPricesOf I P g.added) (sym c.self.view_is) c.requires.1.0 in
    let within = end_within I P c.self.inside.ends.items c.args.plane.0 from prices.ends c.requires.1.1.0 c.index.ensures in
    omega (arith, within, c.requires.1.0.positions.all)

pub missing_cost-requires : goal.missing_cost-requires
missing_cost-requires g c =
    let I = c.args.inst.now in
    let P = c.args.plan.now in
    let from = c.index.result.now in
    let rows = c.positions.result.now in
    let prices = subst (IsPricesOf I P g.added) (sym c.self.view_is) c.requires.1.0 in
    let within = end_within I P c.self.inside.ends.items c.args.plane.0 from prices.ends c.requires.1.1.0 c.index.ensures in
    let long = rows_few I (at_hand_with I P g.added) c.args.self.now.airports from.0 c.parts-rows.ensures.valid within c.requires.1.0.positions in
    let same : length rows ≡ length (get_or c.args.self.now.airports from.0 []) = ap length c.positions.ensures in
    let counts : c.lost-lost.result ≤ length rows = subst (λ k. k ≤ length rows) (sym c.lost-lost.ensures) (count_by-le-length (is_lost c.plane-info.result.now) rows) in
    omega (arith, counts, same, long)

pub missing_cost-requires-2 : goal.missing_cost-requires-2
missing_cost-requires-2 g c =
    let I = c.args.inst.now in
    let P = c.args.plan.now in
    let rows = c.positions-2.result.now in
    let long = rows_few I (at_hand_with I P g.added) c.args.self.now.airports c.args.dest.0 c.parts-rows.ensures.valid c.requires.1.1.1.1.0 c.requires.1.0.positions in
    let same : length rows ≡ length (get_or c.args.self.now.airports c.args.dest.0 []) = ap length c.positions-2.ensures in
    let counts : c.gained-gained.result ≤ length rows = subst (λ k. k ≤ length rows) (sym c.gained-gained.ensures) (count_by-le-length (is_gained c.plane-info.result.now) rows) in
    omega (arith, counts, same, long)

pub returns-clause-change : goal.returns-clause-change
returns-clause-change g c at time =
    let I = c.args.inst.now in
    let P = c.args.plan.now in
    let p = c.args.plane.0 in
    let from = c.index.result.now in
    let prices = subst (IsPricesOf I P g.added) (sym c.self.view_is) c.requires.1.0 in
    let within = end_within I P c.self.inside.ends.items p from prices.ends c.requires.1.1.0 c.index.ensures in
    change_apart I P c.requires.0 g.added (added_leg p c.args.dest.0 at) c.requires.1.1.0 c.requires.1.1.1.0 c.requires.1.1.1.1.1 time from c.unwrap_or-minutes.result c.flying_cost-flying.result.0 c.plane-info.result.now c.positions.result.now c.positions-2.result.now
    c.missing_cost.result.0 c.missing_cost-2.result.0 c.plus.result.0 c.missing_cost-2.result.0
    (end_is I P c.self.inside.ends.items p from prices.ends c.requires.1.1.0 c.index.ensures)
    (c.unwrap_or-minutes.ensures ∙ ap (λ o. unwrap_or o 0) c.distance.ensures.value)
    c.flying_cost-flying.ensures.cost
    (λ same. not_both (eqb from.0 c.args.dest.0) (eq-eqb from.0 c.args.dest.0 same) (sym c.eq.ensures ∙ c.if-eq.false))
    c.plane-info.ensures.row
    (c.positions.ensures ∙ c.requires.1.0.positions.each from.0 within)
    (c.positions-2.ensures ∙ c.requires.1.0.positions.each c.args.dest.0 c.requires.1.1.1.1.0)
    (c.missing_cost.ensures.cost ∙ ap (missing_cost I) c.lost-lost.ensures)
    (c.missing_cost-2.ensures.cost ∙ ap (missing_cost I) c.gained-gained.ensures)
    c.plus.ensures refl

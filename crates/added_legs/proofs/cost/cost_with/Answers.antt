use Rattle.std.proofs.Common.{◌≡◌, ℕ, ◌+◌, length, ap, sym, ◌∙◌, arith}
use Rattle.desk_data.specs.Situation.{legs_of, planes_of}
use Rattle.desk_rules.specs.Cost.{cost, position_cost, operating_cost, grains}
use Rattle.plan_reads.specs.Last.{AreLasts}
use Rattle.added_legs.specs.Merged.{merged_day, merged_plan}
use Rattle.added_legs.specs.Added.{cost_added}
use Rattle.added_legs.specs.Stands.{flights_cost}
use Rattle.added_legs.proofs.CostLaws.{operating_is, cost-room, position-le, cost_is}
use Rattle.added_legs.proofs.EndLaws.{ends_are, old_ends_are, position_is, same_positions}
use Rattle.added_legs.proofs.cost.cost_with.Goals as goal

pub overflow_sub-others : goal.overflow_sub-others
overflow_sub-others c =
    let I = c.args.inst.now in
    let P = c.args.plan.now in
    let lasts : AreLasts I P (λ (p : ℕ). I.parts.to.0) (legs_of I) c.put_lasts.new.lasts = rw c.window.ensures at c.put_lasts.ensures in
    let ends = old_ends_are I P c.put_lasts.new.lasts c.clear.new.flights c.put_ends.new.stands lasts (λ p lt. c.clear.ensures.none p (omega (arith, lt, c.requires.flights))) c.put_ends.ensures in
    let old : c.position_cost-before.result.0 ≡ position_cost I P = ap (λ g. g.0) c.position_cost-before.ensures.cost ∙ position_is I P c.put_ends.new.stands ends in
    let full : c.full_cost.result.0 ≡ cost I P = ap (λ g. g.0) c.full_cost.ensures.cost in
    omega (arith, old, full, position-le I P)

pub plus-requires : goal.plus-requires
plus-requires c =
    let I = c.args.inst.now in
    let P = c.args.plan.now in
    let full : c.full_cost.result.0 ≡ cost I P = ap (λ g. g.0) c.full_cost.ensures.cost in
    omega (arith, full, cost-room I P c.parts-rows.ensures.valid c.requires.plan, c.flights_cost.ensures.limit)

pub plus-requires-2 : goal.plus-requires-2
plus-requires-2 c =
    let I = c.args.inst.now in
    let P = c.args.plan.now in
    let full : c.full_cost.result.0 ≡ cost I P = ap (λ g. g.0) c.full_cost.ensures.cost in
    omega (arith, full, cost-room I P c.parts-rows.ensures.valid c.requires.plan, c.plus.ensures, c.flights_cost.ensures.limit, c.position_cost-after.ensures.limit)

pub returns-clause-cost : goal.returns-clause-cost
returns-clause-cost c =
    let I = c.args.inst.now in
    let P = c.args.plan.now in
    let A = c.args.added.now in
    let M = merged_day I P A in
    let Q = merged_plan I P A in
    let all : length P.rows ≡ legs_of I = c.requires.plan.legs in
    let g = c.put_flights.ensures.flights in
    let lasts : AreLasts I P (λ (p : ℕ). I.parts.to.0) (legs_of I) c.put_lasts.new.lasts = rw c.window.ensures at c.put_lasts.ensures in
    let ends = old_ends_are I P c.put_lasts.new.lasts c.clear.new.flights c.put_ends.new.stands lasts (λ p lt. c.clear.ensures.none p (omega (arith, lt, c.requires.flights))) c.put_ends.ensures in
    let old : c.position_cost-before.result.0 ≡ position_cost I P = ap (λ g. g.0) c.position_cost-before.ensures.cost ∙ position_is I P c.put_ends.new.stands ends in
    let lasts2 : AreLasts I P (λ (p : ℕ). I.parts.to.0) (legs_of I) c.put_lasts-2.new.lasts = rw c.window-2.ensures at c.put_lasts-2.ensures in
    let ends2 = ends_are I P A c.put_lasts-2.new.lasts c.put_flights.new.flights c.put_ends-2.new.stands all lasts2 g c.put_ends-2.ensures in
    let new : c.position_cost-after.result.0 ≡ position_cost M Q = ap (λ g. g.0) c.position_cost-after.ensures.cost ∙ sym (same_positions I P A c.put_ends-2.new.stands) ∙ position_is M Q c.put_ends-2.new.stands ends2 in
    let flying : c.flights_cost.result.0 ≡ flights_cost I c.put_flights.new.flights (planes_of I) = ap (λ g. g.0) c.flights_cost.ensures.cost in
    let full : c.full_cost.result.0 ≡ cost I P = ap (λ g. g.0) c.full_cost.ensures.cost in
    let more : operating_cost M Q ≡ operating_cost I P + c.flights_cost.result.0 = operating_is I P A all c.put_flights.new.flights g ∙ ap (λ (k : ℕ). operating_cost I P + k) (sym flying) in
    let sum = cost_is I P A c.position_cost-before.result.0 c.flights_cost.result.0 c.position_cost-after.result.0 old more new in
    let is : c.plus-2.result.0 ≡ cost_added I P A = omega (arith, sum, full, c.plus.ensures, c.plus-2.ensures) in
    ap grains is

pub returns-clause-limit : goal.returns-clause-limit
returns-clause-limit c =
    let I = c.args.inst.now in
    let P = c.args.plan.now in
    let full : c.full_cost.result.0 ≡ cost I P = ap (λ g. g.0) c.full_cost.ensures.cost in
    omega (arith, full, cost-room I P c.parts-rows.ensures.valid c.requires.plan, c.plus.ensures, c.plus-2.ensures, c.flights_cost.ensures.limit, c.position_cost-after.ensures.limit)

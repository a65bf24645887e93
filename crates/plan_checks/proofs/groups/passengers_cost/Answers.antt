use Rattle.std.proofs.Common.{◌≡◌, ◌+◌, ap, ◌∙◌, arith}
use Rattle.std.specs.Prelude.{sum_by}
use Rattle.desk_data.specs.Situation.{reservations_of}
use Rattle.desk_rules.specs.Numbers.{numbers}
use Rattle.desk_rules.specs.Cost.{delay_cost, cancellation_cost, downgrade_cost, legal_cost}
use Rattle.desk_rules.proofs.CostLaws.{sum-more}
use Rattle.plan_checks.specs.Amounts.{reservation_cost}
use Rattle.plan_checks.proofs.GroupLaws.{reservations-le, reservations_are}
use Rattle.plan_checks.proofs.groups.passengers_cost.Goals as goal

pub plus-total-requires : goal.plus-total-requires
plus-total-requires g c =
    let I = c.args.inst.now in
    let P = g.P.ReadPlan.plan_of c.args.plan.now in
    let one : c.reservation_cost.result.0 ≡ reservation_cost I P c.loop-r.r = ap (λ g. g.0) c.reservation_cost.ensures in
    omega (arith, reservations-le I P (c.loop-r.r + 1) c.parts-rows.ensures.valid c.requires, sum-more (reservation_cost I P) c.loop-r.r, one, c.loop-r.invariant)

pub loop-r-preserved : goal.loop-r-preserved
loop-r-preserved g c =
    let I = c.args.inst.now in
    let P = g.P.ReadPlan.plan_of c.args.plan.now in
    let one : c.reservation_cost.result.0 ≡ reservation_cost I P c.loop-r.r = ap (λ g. g.0) c.reservation_cost.ensures in
    omega (arith, sum-more (reservation_cost I P) c.loop-r.r, one, c.loop-r.invariant)

pub returns-clause-cost : goal.returns-clause-cost
unfolding delay_cost cancellation_cost downgrade_cost legal_cost
returns-clause-cost g c =
    let all : c.loop-r.r ≡ reservations_of c.args.inst.now = omega arith in
    c.loop-r.invariant
    ∙ ap (λ n. sum_by (reservation_cost c.args.inst.now (g.P.ReadPlan.plan_of c.args.plan.now)) (numbers n)) all
    ∙ reservations_are c.args.inst.now (g.P.ReadPlan.plan_of c.args.plan.now) (reservations_of c.args.inst.now)

pub returns-clause-limit : goal.returns-clause-limit
returns-clause-limit g c =
    omega (arith, reservations-le c.args.inst.now (g.P.ReadPlan.plan_of c.args.plan.now) c.loop-r.r c.parts-rows.ensures.valid c.requires, c.loop-r.invariant)

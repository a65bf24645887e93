use Rattle.std.proofs.Common.{◌≡◌, ap, arith, ◌∙◌, ◌-◌}
use Rattle.desk_units.specs.declared.money.Grains.{Grains}
use Rattle.desk_rules.specs.Cost.{cost, position_cost, grains}
use Rattle.page_parts.proofs.TermLaws.{cost_is, delay_is, cancellation_is, downgrade_is, legal_is}
use Rattle.page_parts.proofs.terms.cost_terms.Goals as goal

pub overflow_sub-position : goal.overflow_sub-position
overflow_sub-position g c =
    let I = c.args.inst.now in
    let P = g.P.ReadPlan.plan_of c.args.plan.now in
    omega (arith, cost_is I P, ap (λ (all : Grains). all.0) c.full_cost-all.ensures.cost, c.operating_cost-operating.ensures)

pub overflow_sub-position-2 : goal.overflow_sub-position-2
overflow_sub-position-2 g c =
    let I = c.args.inst.now in
    let P = g.P.ReadPlan.plan_of c.args.plan.now in
    omega (arith, cost_is I P, ap (λ (all : Grains). all.0) c.full_cost-all.ensures.cost, c.operating_cost-operating.ensures, c.passenger_term-delay.ensures)

pub overflow_sub-position-3 : goal.overflow_sub-position-3
overflow_sub-position-3 g c =
    let I = c.args.inst.now in
    let P = g.P.ReadPlan.plan_of c.args.plan.now in
    omega (arith, cost_is I P, ap (λ (all : Grains). all.0) c.full_cost-all.ensures.cost, c.operating_cost-operating.ensures, c.passenger_term-delay.ensures, c.passenger_term-cancellation.ensures)

pub overflow_sub-position-4 : goal.overflow_sub-position-4
overflow_sub-position-4 g c =
    let I = c.args.inst.now in
    let P = g.P.ReadPlan.plan_of c.args.plan.now in
    omega (arith, cost_is I P, ap (λ (all : Grains). all.0) c.full_cost-all.ensures.cost, c.operating_cost-operating.ensures, c.passenger_term-delay.ensures, c.passenger_term-cancellation.ensures, c.passenger_term-downgrade.ensures)

pub overflow_sub-position-5 : goal.overflow_sub-position-5
overflow_sub-position-5 g c =
    let I = c.args.inst.now in
    let P = g.P.ReadPlan.plan_of c.args.plan.now in
    omega (arith, cost_is I P, ap (λ (all : Grains). all.0) c.full_cost-all.ensures.cost, c.operating_cost-operating.ensures, c.passenger_term-delay.ensures, c.passenger_term-cancellation.ensures, c.passenger_term-downgrade.ensures, c.passenger_term-legal.ensures)

pub returns-clause-delay : goal.returns-clause-delay
returns-clause-delay g c = ap grains (c.passenger_term-delay.ensures ∙ delay_is c.args.inst.now (g.P.ReadPlan.plan_of c.args.plan.now))

pub returns-clause-cancellation : goal.returns-clause-cancellation
returns-clause-cancellation g c = ap grains (c.passenger_term-cancellation.ensures ∙ cancellation_is c.args.inst.now (g.P.ReadPlan.plan_of c.args.plan.now))

pub returns-clause-downgrade : goal.returns-clause-downgrade
returns-clause-downgrade g c = ap grains (c.passenger_term-downgrade.ensures ∙ downgrade_is c.args.inst.now (g.P.ReadPlan.plan_of c.args.plan.now))

pub returns-clause-legal : goal.returns-clause-legal
returns-clause-legal g c = ap grains (c.passenger_term-legal.ensures ∙ legal_is c.args.inst.now (g.P.ReadPlan.plan_of c.args.plan.now))

pub returns-clause-position : goal.returns-clause-position
returns-clause-position g c =
    let I = c.args.inst.now in
    let P = g.P.ReadPlan.plan_of c.args.plan.now in
    let rest : c.full_cost-all.result.0 - c.operating_cost-operating.result.0 - c.passenger_term-delay.result.0 - c.passenger_term-cancellation.result.0 - c.passenger_term-downgrade.result.0 - c.passenger_term-legal.result.0 ≡ position_cost I P =
    omega (arith, cost_is I P, ap (λ (all : Grains). all.0) c.full_cost-all.ensures.cost, c.operating_cost-operating.ensures, c.passenger_term-delay.ensures, c.passenger_term-cancellation.ensures, c.passenger_term-downgrade.ensures, c.passenger_term-legal.ensures) in
    ap grains rest

pub returns-clause-sum : goal.returns-clause-sum
returns-clause-sum g c =
    let I = c.args.inst.now in
    let P = g.P.ReadPlan.plan_of c.args.plan.now in
    omega (arith, cost_is I P, ap (λ (all : Grains). all.0) c.full_cost-all.ensures.cost, c.operating_cost-operating.ensures, c.passenger_term-delay.ensures, c.passenger_term-cancellation.ensures, c.passenger_term-downgrade.ensures, c.passenger_term-legal.ensures)

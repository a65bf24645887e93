use Rattle.std.proofs.Common.{◌≡◌, ◌+◌, ap, ◌∙◌, arith}
use Rattle.std.specs.Prelude.{sum_by}
use Rattle.desk_data.specs.Situation.{legs_of}
use Rattle.desk_rules.specs.Numbers.{numbers}
use Rattle.desk_rules.specs.Cost.{operating_of, operating, operating_cost, grains}
use Rattle.desk_rules.proofs.CostLaws.{operating-sum-le, sum-more}
use Rattle.plan_checks.proofs.operating.operating_cost.Goals as goal

pub plus-total-requires : goal.plus-total-requires
plus-total-requires g c =
    let I = c.args.inst.now in
    let P = g.P.ReadPlan.plan_of c.args.plan.now in
    let one : c.leg_cost.result.0 ≡ operating I P c.loop-x.x = ap (λ g. g.0) c.leg_cost.ensures ∙ ap (operating_of I c.loop-x.x) c.read_row-row.ensures.row in
    omega (arith, operating-sum-le I P (c.loop-x.x + 1) c.parts-rows.ensures.valid, sum-more (operating I P) c.loop-x.x, one, c.loop-x.invariant)

pub loop-x-preserved : goal.loop-x-preserved
loop-x-preserved g c =
    let I = c.args.inst.now in
    let P = g.P.ReadPlan.plan_of c.args.plan.now in
    let one : c.leg_cost.result.0 ≡ operating I P c.loop-x.x = ap (λ g. g.0) c.leg_cost.ensures ∙ ap (operating_of I c.loop-x.x) c.read_row-row.ensures.row in
    omega (arith, sum-more (operating I P) c.loop-x.x, one, c.loop-x.invariant)

pub returns-clause-cost : goal.returns-clause-cost
unfolding operating_cost
returns-clause-cost g c =
    let all : c.loop-x.x ≡ legs_of c.args.inst.now = omega arith in
    ap grains (c.loop-x.invariant ∙ ap (λ n. sum_by (operating c.args.inst.now (g.P.ReadPlan.plan_of c.args.plan.now)) (numbers n)) all)

pub returns-clause-limit : goal.returns-clause-limit
returns-clause-limit g c =
    omega (arith, operating-sum-le c.args.inst.now (g.P.ReadPlan.plan_of c.args.plan.now) c.loop-x.x c.parts-rows.ensures.valid, c.loop-x.invariant)

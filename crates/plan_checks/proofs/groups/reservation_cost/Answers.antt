use Rattle.std.proofs.Common.{◌≡◌, ◌<◌, ◌≤◌, length, get_or, ap, ◌∙◌, arith}
use Rattle.std.proofs.lemmas.List.Sums.{sum_by_more}
use Rattle.desk_data.specs.PlanRows.{groups_at}
use Rattle.desk_rules.specs.Cost.{grains}
use Rattle.plan_checks.specs.Amounts.{group_cost}
use Rattle.plan_checks.proofs.GroupLaws.{group-fits, some-groups-lt, all-groups}
use Rattle.plan_checks.proofs.groups.reservation_cost.Goals as goal

pub group_cost-requires-clause-group : goal.group_cost-requires-clause-group
group_cost-requires-clause-group g c =
    let I = c.args.inst.now in
    let P = g.P.ReadPlan.plan_of c.args.plan.now in
    let r = c.args.res.0 in
    let i = c.loop-group.group-index in
    let lt : i < length (groups_at P r) = rw c.groups-group-items.ensures.groups at c.loop-group-test.true in
    let is : c.group-item.result ≡ get_or (groups_at P r) i c.group-item.result = rw c.groups-group-items.ensures.groups at c.group-item.is in
    rw c.as_slice-path.ensures (group-fits I P r i c.group-item.result c.parts-rows.ensures.valid c.requires.plan c.requires.res lt is)

pub plus-total-requires : goal.plus-total-requires
plus-total-requires g c =
    let I = c.args.inst.now in
    let P = g.P.ReadPlan.plan_of c.args.plan.now in
    let r = c.args.res.0 in
    let i = c.loop-group.group-index in
    let lt : i < length (groups_at P r) = rw c.groups-group-items.ensures.groups at c.loop-group-test.true in
    let is : c.group-item.result ≡ get_or (groups_at P r) i c.group-item.result = rw c.groups-group-items.ensures.groups at c.group-item.is in
    let one : c.group_cost.result.0 ≡ group_cost I P r (get_or (groups_at P r) i c.group-item.result) = ap (λ g. g.0) (rw c.as_slice-path.ensures at c.group_cost.ensures) ∙ ap (group_cost I P r) is in
    omega (arith, some-groups-lt I P r i c.group-item.result c.parts-rows.ensures.valid c.requires.plan lt, one, c.loop-group.invariant)

pub loop-group-preserved : goal.loop-group-preserved
loop-group-preserved g c =
    let I = c.args.inst.now in
    let P = g.P.ReadPlan.plan_of c.args.plan.now in
    let r = c.args.res.0 in
    let i = c.loop-group.group-index in
    let lt : i < length (groups_at P r) = rw c.groups-group-items.ensures.groups at c.loop-group-test.true in
    let is : c.group-item.result ≡ get_or (groups_at P r) i c.group-item.result = rw c.groups-group-items.ensures.groups at c.group-item.is in
    let one : c.group_cost.result.0 ≡ group_cost I P r (get_or (groups_at P r) i c.group-item.result) = ap (λ g. g.0) (rw c.as_slice-path.ensures at c.group_cost.ensures) ∙ ap (group_cost I P r) is in
    omega (arith, sum_by_more (group_cost I P r) (groups_at P r) i c.group-item.result lt, c.plus-total.ensures, one, c.loop-group.invariant)

pub returns : goal.returns
returns g c =
    let I = c.args.inst.now in
    let P = g.P.ReadPlan.plan_of c.args.plan.now in
    let r = c.args.res.0 in
    let i = c.loop-group.group-index in
    let all : length (groups_at P r) ≤ i = rw c.groups-group-items.ensures.groups at c.loop-group-test.false in
    ap grains (c.loop-group.invariant ∙ all-groups I P r i all)

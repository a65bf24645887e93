use Rattle.std.proofs.Common.{◌≡◌, ◌<◌, ◌≤◌, length, get_or, ap, ◌∙◌, arith}
use Rattle.std.proofs.lemmas.List.{take_all}
use Rattle.std.specs.Prelude.{sum_by}
use Rattle.std.proofs.lemmas.List.Sums.{sum_by_more, sum_by_more_le}
use Rattle.desk_data.specs.PlanRows.{groups_at}
use Rattle.desk_rules.proofs.CostLaws.{reservation-le}
use Rattle.plan_checks.proofs.GroupLaws.{passenger_most, group-fits}
use Rattle.page_parts.specs.Amounts.{amount}
use Rattle.page_parts.proofs.TermLaws.{amount-le}
use Rattle.page_parts.proofs.passenger_terms.reservation_term.Goals as goal

pub group_term-requires-clause-group : goal.group_term-requires-clause-group
group_term-requires-clause-group g c =
    let I = c.args.inst.now in
    let P = g.P.ReadPlan.plan_of c.args.plan.now in
    let r = c.args.res.0 in
    let i = c.loop-group.group-index in
    let lt : i < length (groups_at P r) = rw c.groups-group-items.ensures.groups at c.loop-group-test.true in
    let is : c.group-item.result ≡ get_or (groups_at P r) i c.group-item.result = rw c.groups-group-items.ensures.groups at c.group-item.is in
    rw c.as_slice-path.ensures (group-fits I P r i c.group-item.result c.parts-rows.ensures.valid c.requires.plan c.requires.res lt is)

pub plus-total-requires : goal.plus-total-requires
plus-total-requires g c =
    let I = c.args.inst.now in
    let P = g.P.ReadPlan.plan_of c.args.plan.now in
    let r = c.args.res.0 in
    let i = c.loop-group.group-index in
    let of = amount I P c.args.term r in
    let lt : i < length (groups_at P r) = rw c.groups-group-items.ensures.groups at c.loop-group-test.true in
    let is : c.group-item.result ≡ get_or (groups_at P r) i c.group-item.result = rw c.groups-group-items.ensures.groups at c.group-item.is in
    let one : c.group_term.result.0 ≡ of (get_or (groups_at P r) i c.group-item.result) = rw c.as_slice-path.ensures at c.group_term.ensures ∙ ap of is in
    omega (arith, sum_by_more_le of (groups_at P r) i c.group-item.result lt, reservation-le I P (amount I P c.args.term) passenger_most r c.parts-rows.ensures.valid c.requires.plan (amount-le I P c.args.term c.parts-rows.ensures.valid c.requires.plan), one, c.loop-group.invariant)

pub loop-group-preserved : goal.loop-group-preserved
loop-group-preserved g c =
    let I = c.args.inst.now in
    let P = g.P.ReadPlan.plan_of c.args.plan.now in
    let r = c.args.res.0 in
    let i = c.loop-group.group-index in
    let of = amount I P c.args.term r in
    let lt : i < length (groups_at P r) = rw c.groups-group-items.ensures.groups at c.loop-group-test.true in
    let is : c.group-item.result ≡ get_or (groups_at P r) i c.group-item.result = rw c.groups-group-items.ensures.groups at c.group-item.is in
    let one : c.group_term.result.0 ≡ of (get_or (groups_at P r) i c.group-item.result) = rw c.as_slice-path.ensures at c.group_term.ensures ∙ ap of is in
    omega (arith, sum_by_more of (groups_at P r) i c.group-item.result lt, c.plus-total.ensures, one, c.loop-group.invariant)

pub returns : goal.returns
returns g c =
    let I = c.args.inst.now in
    let P = g.P.ReadPlan.plan_of c.args.plan.now in
    let r = c.args.res.0 in
    let all : length (groups_at P r) ≤ c.loop-group.group-index = rw c.groups-group-items.ensures.groups at c.loop-group-test.false in
    c.loop-group.invariant ∙ ap (sum_by (amount I P c.args.term r)) (take_all c.loop-group.group-index (groups_at P r) all)

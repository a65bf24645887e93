use Rattle.std.proofs.Common.{◌≡◌, ◌+◌, ap, ◌∙◌, arith}
use Rattle.std.specs.Prelude.{sum_by}
use Rattle.desk_data.specs.PlanRows.{groups_at}
use Rattle.desk_data.specs.Situation.{reservations_of}
use Rattle.desk_rules.specs.Numbers.{numbers}
use Rattle.desk_rules.proofs.CostLaws.{sum-more, reservations-le}
use Rattle.plan_checks.proofs.GroupLaws.{passenger_most}
use Rattle.page_parts.specs.Amounts.{amount}
use Rattle.page_parts.proofs.TermLaws.{amount-le}
use Rattle.page_parts.proofs.passenger_terms.passenger_term.Goals as goal

pub plus-total-requires : goal.plus-total-requires
plus-total-requires g c =
    let I = c.args.inst.now in
    let P = g.P.ReadPlan.plan_of c.args.plan.now in
    let of = amount I P c.args.term in
    omega (arith, reservations-le I P of passenger_most (c.loop-r.r + 1) c.parts-rows.ensures.valid c.requires (amount-le I P c.args.term c.parts-rows.ensures.valid c.requires), sum-more (λ r. sum_by (of r) (groups_at P r)) c.loop-r.r, c.reservation_term.ensures, c.loop-r.invariant)

pub loop-r-preserved : goal.loop-r-preserved
loop-r-preserved g c =
    let I = c.args.inst.now in
    let P = g.P.ReadPlan.plan_of c.args.plan.now in
    omega (arith, sum-more (λ r. sum_by (amount I P c.args.term r) (groups_at P r)) c.loop-r.r, c.plus-total.ensures, c.reservation_term.ensures, c.loop-r.invariant)

pub returns : goal.returns
returns g c =
    let P = g.P.ReadPlan.plan_of c.args.plan.now in
    let all : c.loop-r.r ≡ reservations_of c.args.inst.now = omega arith in
    c.loop-r.invariant ∙ ap (λ n. sum_by (λ r. sum_by (amount c.args.inst.now P c.args.term r) (groups_at P r)) (numbers n)) all

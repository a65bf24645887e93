use Rattle.std.proofs.Common.{◌≡◌, ◌<◌, length, get_or, sym, ap, subst, ◌∙◌, arith}
use Rattle.std.specs.Prelude.{None}
use Rattle.std.specs.Option.{ForSome}
use Rattle.std.proofs.lemmas.List.Elements.{All-get_or}
use Rattle.desk_data.specs.declared.row.Row.TheVariants.{Cancelled}
use Rattle.desk_data.specs.PlanRows.{row_at}
use Rattle.desk_data.specs.Situation.{legs_of, planes_of}
use Rattle.desk_data.specs.Valid.{IsRowOf}
use Rattle.plan_reads.specs.Before.{IsLegBefore}
use Rattle.plan_reads.proofs.AfterLegLaws.{before-within}
use Rattle.desk_rules.specs.Rules.{c4_range, c7_service}
use Rattle.added_legs.specs.Asked.{c5_by, c6_by}
use Rattle.added_legs.proofs.AskedLaws.{c4_old, c5_old, c6_old, c7_old}
use Rattle.added_legs.proofs.rule.leg_keeps.Goals as goal

pub c5_with-requires-clause-before : goal.c5_with-requires-clause-before
c5_with-requires-clause-before c =
    let I = c.args.inst.now in
    let P = c.args.plan.now in
    let A = c.args.known.added.now in
    let flights = c.args.known.flights.now in
    let y = c.args.leg.0 in
    let b = get_or c.args.known.before.now y None in
    let all : length P.rows ≡ legs_of I = c.requires.plan.legs in
    let lt : y < length P.rows = omega (arith, all, c.requires.leg) in
    subst (λ n. ForSome b (λ leg. leg.0 < n)) all (before-within P.rows (length P.rows) y b (c.requires.known.before.each y lt))

pub c6_with-requires-clause-before : goal.c6_with-requires-clause-before
c6_with-requires-clause-before c =
    let I = c.args.inst.now in
    let P = c.args.plan.now in
    let A = c.args.known.added.now in
    let flights = c.args.known.flights.now in
    let y = c.args.leg.0 in
    let b = get_or c.args.known.before.now y None in
    let all : length P.rows ≡ legs_of I = c.requires.plan.legs in
    let lt : y < length P.rows = omega (arith, all, c.requires.leg) in
    subst (λ n. ForSome b (λ leg. leg.0 < n)) all (before-within P.rows (length P.rows) y b (c.requires.known.before.each y lt))

pub returns-in-C4Range : goal.returns-in-C4Range
returns-in-C4Range c =
    let I = c.args.inst.now in
    let P = c.args.plan.now in
    let A = c.args.known.added.now in
    let flights = c.args.known.flights.now in
    let y = c.args.leg.0 in
    let b = get_or c.args.known.before.now y None in
    let all : length P.rows ≡ legs_of I = c.requires.plan.legs in
    let lt : y < length P.rows = omega (arith, all, c.requires.leg) in
    rw c.in-C4Range.is (c.c4_range.ensures ∙ ap (c4_range I y) c.read_row-row.ensures.row ∙ sym (c4_old I P A c.parts-rows.ensures.valid all flights c.requires.known.flights y c.requires.leg))

pub returns-in-C7Service : goal.returns-in-C7Service
returns-in-C7Service c =
    let I = c.args.inst.now in
    let P = c.args.plan.now in
    let A = c.args.known.added.now in
    let flights = c.args.known.flights.now in
    let y = c.args.leg.0 in
    let b = get_or c.args.known.before.now y None in
    let all : length P.rows ≡ legs_of I = c.requires.plan.legs in
    let lt : y < length P.rows = omega (arith, all, c.requires.leg) in
    rw c.in-C7Service.is (c.c7_service.ensures ∙ ap (c7_service I y) c.read_row-row.ensures.row ∙ sym (c7_old I P A c.parts-rows.ensures.valid all flights c.requires.known.flights y c.requires.leg))

pub returns-in-C5Location : goal.returns-in-C5Location
returns-in-C5Location c =
    let I = c.args.inst.now in
    let P = c.args.plan.now in
    let A = c.args.known.added.now in
    let flights = c.args.known.flights.now in
    let y = c.args.leg.0 in
    let b = get_or c.args.known.before.now y None in
    let all : length P.rows ≡ legs_of I = c.requires.plan.legs in
    let lt : y < length P.rows = omega (arith, all, c.requires.leg) in
    let h : IsLegBefore P.rows (legs_of I) y b = subst (λ n. IsLegBefore P.rows n y b) all (c.requires.known.before.each y lt) in
    let good : IsRowOf (planes_of I) (row_at P y) = All-get_or (IsRowOf (planes_of I)) P.rows y Cancelled lt c.requires.plan.rows in
    rw c.in-C5Location.is (c.c5_with.ensures ∙ ap (c5_by I P y b flights) c.read_row-row.ensures.row ∙ sym (c5_old I P A c.parts-rows.ensures.valid all flights c.requires.known.flights y b c.requires.leg good h))

pub returns-in-C6GroundTime : goal.returns-in-C6GroundTime
returns-in-C6GroundTime c =
    let I = c.args.inst.now in
    let P = c.args.plan.now in
    let A = c.args.known.added.now in
    let flights = c.args.known.flights.now in
    let y = c.args.leg.0 in
    let b = get_or c.args.known.before.now y None in
    let all : length P.rows ≡ legs_of I = c.requires.plan.legs in
    let lt : y < length P.rows = omega (arith, all, c.requires.leg) in
    let h : IsLegBefore P.rows (legs_of I) y b = subst (λ n. IsLegBefore P.rows n y b) all (c.requires.known.before.each y lt) in
    let good : IsRowOf (planes_of I) (row_at P y) = All-get_or (IsRowOf (planes_of I)) P.rows y Cancelled lt c.requires.plan.rows in
    rw c.in-C6GroundTime.is (c.c6_with.ensures ∙ ap (c6_by I P y b flights) c.read_row-row.ensures.row ∙ sym (c6_old I P A c.parts-rows.ensures.valid all flights c.requires.known.flights y b c.requires.leg good h))

use Rattle.std.proofs.Common.{◌≡◌, ℕ, ◌+◌, ◌-◌, ◌%◌, ◌<◌, false, length, get_or, take, rules, ap, subst, ◌∙◌, arith}
use Rattle.desk_data.specs.PlanRows.{PlanRows, row_at}
use Rattle.desk_data.specs.Valid.{IsPlanFor}
use Rattle.near_draft.specs.Drafts.{drafted}
use Rattle.near_draft.proofs.ChangeLaws.{changes-at, row-same, row-other}
use Rattle.near_draft.proofs.MarkLaws.{unmarked-row}
use Rattle.near_draft.proofs.rows.row_after.Goals as goal

pub returns-then-not-marks-leg-clause-row : goal.returns-then-not-marks-leg-clause-row
returns-then-not-marks-leg-clause-row c =
    let P = c.args.base.now.rows in
    let x = c.args.leg.0 in
    let none : get_or c.args.marks.now (x % 64) false ≡ false = search rules in
    c.read_row.ensures.row ∙ ap (λ (Q : PlanRows). row_at Q x) c.plan-plan.ensures.rows ∙ unmarked-row P c.args.changes.now c.args.marks.now x c.requires.marks none

pub loop-place-preserved : goal.loop-place-preserved
loop-place-preserved c =
    let I = c.args.base.now.inst in
    let P = c.args.base.now.rows in
    let changes = c.args.changes.now in
    let x = c.args.leg.0 in
    let i = c.loop-place.place - 1 in
    let inv = c.loop-place.invariant in
    let plan : IsPlanFor I P = subst (IsPlanFor I) c.plan-plan.ensures.rows c.plan-plan.ensures.valid in
    let lt : i < length changes = omega (arith, inv.within, c.loop-place-test.true) in
    let next : i + 1 ≡ c.loop-place.place = omega (arith, c.loop-place-test.true) in
    record {
      within = omega (arith, inv.within);
      row = row-other I P changes i x c.requires.changes plan lt c.if-changes-place.false ∙ ap (λ (k : ℕ). row_at (drafted P (take k changes)) x) next ∙ inv.row;
    }

pub returns-then-changes-place-clause-row : goal.returns-then-changes-place-clause-row
returns-then-changes-place-clause-row c =
    let I = c.args.base.now.inst in
    let P = c.args.base.now.rows in
    let changes = c.args.changes.now in
    let x = c.args.leg.0 in
    let i = c.loop-place.place - 1 in
    let inv = c.loop-place.invariant in
    let plan : IsPlanFor I P = subst (IsPlanFor I) c.plan-plan.ensures.rows c.plan-plan.ensures.valid in
    let lt : i < length changes = omega (arith, inv.within, c.loop-place-test.true) in
    let next : i + 1 ≡ c.loop-place.place = omega (arith, c.loop-place-test.true) in
    row-same I P changes i x c.requires.changes plan lt c.if-changes-place.true ∙ ap (λ (k : ℕ). row_at (drafted P (take k changes)) x) next ∙ inv.row

pub returns-then-changes-place-clause-fits : goal.returns-then-changes-place-clause-fits
returns-then-changes-place-clause-fits c =
    let lt : c.loop-place.place - 1 < length c.args.changes.now = omega (arith, c.loop-place.invariant.within, c.loop-place-test.true) in
    (changes-at c.args.base.now.inst c.args.base.now.rows c.args.changes.now (c.loop-place.place - 1) c.requires.changes lt).row

use Rattle.std.proofs.Common.{◌≡◌, ◌+◌, ◌<◌, length, get_or, take, sym, ap, subst, ◌∙◌, arith}
use Rattle.desk_data.specs.declared.row.Row.TheVariants.{Cancelled}
use Rattle.desk_data.specs.declared.row.Row.{Row}
use Rattle.desk_data.specs.Situation.{Situation, legs_of, planes_of}
use Rattle.desk_data.specs.PlanRows.{PlanRows, row_at}
use Rattle.desk_data.specs.Valid.{IsPlanFor, IsRowOf}
use Rattle.hour_counts.specs.Counts.{one_if}
use Rattle.near_draft.specs.Drafts.{changed, drafted}
use Rattle.near_draft.specs.Hours.{beside, is_counted_at}
use Rattle.near_draft.proofs.ChangeLaws.{no_change, changes-at, front-valid, drafted-more}
use Rattle.near_draft.proofs.HourLaws.{beside-other, beside-itself, beside-few}
use Rattle.near_draft.proofs.hours.beside_after.Goals as goal
use Rattle.near_draft.proofs.hours.beside_after.Goals.{then-change-leg, else-change-leg}

pub after_change-count-requires-clause-leg : goal.after_change-count-requires-clause-leg
after_change-count-requires-clause-leg c =
    subst (λ (I : Situation). (get_or c.args.changes.now c.loop-change.change-index no_change).leg.0 < legs_of I) (sym c.instance-inst.ensures)
    (changes-at c.args.base.now.inst c.args.base.now.rows c.args.changes.now c.loop-change.change-index c.requires.changes c.loop-change-test.true).leg

pub after_change-count-requires-clause-row : goal.after_change-count-requires-clause-row
after_change-count-requires-clause-row c =
    subst (λ (I : Situation). IsRowOf (planes_of I) (get_or c.args.changes.now c.loop-change.change-index no_change).row) (sym c.instance-inst.ensures)
    (changes-at c.args.base.now.inst c.args.base.now.rows c.args.changes.now c.loop-change.change-index c.requires.changes c.loop-change-test.true).row

pub after_change-count-requires-clause-was : goal.after_change-count-requires-clause-was
after_change-count-requires-clause-was c =
    let I = c.args.base.now.inst in
    let P = c.args.base.now.rows in
    let changes = c.args.changes.now in
    let i = c.loop-change.change-index in
    let is = changes-at I P changes i c.requires.changes c.loop-change-test.true in
    let plan : IsPlanFor I P = subst (IsPlanFor I) c.plan.ensures.rows c.plan.ensures.valid in
    let front = front-valid I P changes i c.requires.changes plan in
    let x = (get_or changes i no_change).leg.0 in
    let within : x < length (drafted P (take i changes)).rows = omega (arith, is.leg, front.legs) in
    subst (λ (J : Situation). IsRowOf (planes_of J) (get_or changes i no_change).was) (sym c.instance-inst.ensures)
    (subst (λ (row : Row). IsRowOf (planes_of I) row) (sym is.was) (front.rows x Cancelled within))

pub after_change-count-requires-clause-few : goal.after_change-count-requires-clause-few
after_change-count-requires-clause-few c =
    let Q = drafted c.args.base.now.rows (take c.loop-change.change-index c.args.changes.now) in
    let few = beside-few c.args.base.now.inst c.args.leg.0 c.args.airport.0 c.args.hour c.args.movement Q in
    omega (arith, few, c.loop-change.invariant, c.legs-few.ensures.limit, c.legs-few.ensures.count, ap legs_of c.instance-inst.ensures)

pub loop-change-preserved : goal.loop-change-preserved
loop-change-preserved c =
    let I = c.args.base.now.inst in
    let P = c.args.base.now.rows in
    let changes = c.args.changes.now in
    let i = c.loop-change.change-index in
    let lt = c.loop-change-test.true in
    let m = c.args.movement in
    let x = c.args.leg.0 in
    let a = c.args.airport.0 in
    let h = c.args.hour in
    let change = get_or changes i no_change in
    let z = change.leg.0 in
    let Q = drafted P (take i changes) in
    let is = changes-at I P changes i c.requires.changes lt in
    let plan : IsPlanFor I P = subst (IsPlanFor I) c.plan.ensures.rows c.plan.ensures.valid in
    let front = front-valid I P changes i c.requires.changes plan in
    let within : z < length Q.rows = omega (arith, is.leg, front.legs) in
    let more : beside m I (drafted P (take (i + 1) changes)) x a h ≡ beside m I (changed Q change) x a h = ap (λ (R : PlanRows). beside m I R x a h) (drafted-more P changes i lt) in
    elim c.if-change-leg.branch [
      | then-change-leg w ↦
          let come : one_if (is_counted_at m c.instance-inst.result.now a h z change.row) ≡ one_if (is_counted_at m I a h z change.row) = ap (λ (J : Situation). one_if (is_counted_at m J a h z change.row)) c.instance-inst.ensures in
          let gone : one_if (is_counted_at m c.instance-inst.result.now a h z change.was) ≡ one_if (is_counted_at m I a h z (row_at Q z)) = ap (λ (J : Situation). one_if (is_counted_at m J a h z change.was)) c.instance-inst.ensures ∙ ap (λ (row : Row). one_if (is_counted_at m I a h z row)) is.was in
          omega (arith, w.count-is, w.after_change-count.ensures, come, gone, c.loop-change.invariant, more, beside-other I x a h Q z change.row is.leg within m w.if-change-leg.true)
      | else-change-leg w ↦ w.count-is ∙ c.loop-change.invariant ∙ sym (more ∙ beside-itself I x a h Q z change.row is.leg within m w.if-change-leg.false)
    ]

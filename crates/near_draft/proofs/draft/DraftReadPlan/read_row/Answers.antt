use Rattle.std.proofs.Common.{◌<◌, length, sym, subst, arith}
use Rattle.desk_data.specs.Valid.{IsPlanFor}
use Rattle.near_draft.specs.Drafts.{Drafted, drafted, plan_of}
use Rattle.near_draft.proofs.ChangeLaws.{drafted-valid}
use Rattle.near_draft.proofs.draft.DraftReadPlan.read_row.Goals as goal

pub row_after-requires-clause-leg : goal.row_after-requires-clause-leg
row_after-requires-clause-leg c =
    let e = c.self.inside in
    let I = e.base.now.inst in
    let P = e.base.now.rows in
    let valid : IsPlanFor I P = subst (IsPlanFor I) c.plan.ensures.rows c.plan.ensures.valid in
    let rows = (drafted-valid I P e.changes.items c.self.invariant.are valid).legs in
    let lt : c.args.leg.0 < length (drafted P e.changes.items).rows = subst (λ (D : Drafted). c.args.leg.0 < length (plan_of D).rows) (sym c.self.view_is) c.requires in
    omega (arith, rows, lt)

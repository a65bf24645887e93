use Rattle.std.proofs.Common.{subst}
use Rattle.desk_data.specs.Valid.{IsPlanFor}
use Rattle.near_draft.specs.Drafts.{Drafted, plan_of}
use Rattle.near_draft.proofs.ChangeLaws.{drafted-valid}
use Rattle.near_draft.proofs.draft.Draft.base.Goals as goal

pub returns-clause-plan : goal.returns-clause-plan
returns-clause-plan c =
    let I = c.self.inside.base.now.inst in
    let P = c.self.inside.base.now.rows in
    let valid : IsPlanFor I P = subst (IsPlanFor I) c.plan.ensures.rows c.plan.ensures.valid in
    subst (λ (D : Drafted). IsPlanFor D.inst (plan_of D)) c.self.view_is (drafted-valid I P c.self.inside.changes.items c.self.invariant.are valid)

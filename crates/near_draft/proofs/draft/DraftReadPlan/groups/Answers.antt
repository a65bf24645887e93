use Rattle.std.proofs.Common.{◌≡◌, ◌<◌, List, [], length, sym, ap, subst, ◌∙◌}
use Rattle.std.specs.Prelude.{slice_index_or}
use Rattle.desk_data.specs.declared.row.Group.{Group}
use Rattle.desk_data.specs.PlanRows.{PlanRows}
use Rattle.near_draft.specs.Drafts.{Drafted, plan_of}
use Rattle.near_draft.proofs.ChangeLaws.{drafted-groups}
use Rattle.near_draft.proofs.draft.DraftReadPlan.groups.Goals as goal

pub groups-requires : goal.groups-requires
groups-requires c =
    let e = c.self.inside in
    let same : (plan_of c.args.self.now).groups ≡ c.plan.result.now.groups =
    ap (λ (D : Drafted). (plan_of D).groups) (sym c.self.view_is) ∙ drafted-groups e.base.now.rows e.changes.items ∙ ap (λ (P : PlanRows). P.groups) (sym c.plan.ensures.rows) in
    subst (λ (gs : List (List Group)). c.args.res.0 < length gs) same c.requires

pub returns-clause-groups : goal.returns-clause-groups
returns-clause-groups c =
    let e = c.self.inside in
    let same : (plan_of c.args.self.now).groups ≡ c.plan.result.now.groups =
    ap (λ (D : Drafted). (plan_of D).groups) (sym c.self.view_is) ∙ drafted-groups e.base.now.rows e.changes.items ∙ ap (λ (P : PlanRows). P.groups) (sym c.plan.ensures.rows) in
    c.groups.ensures.groups ∙ ap (λ (gs : List (List Group)). slice_index_or gs c.args.res.0 []) (sym same)

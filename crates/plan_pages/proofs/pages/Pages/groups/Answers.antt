use Rattle.std.proofs.Common.{◌≡◌, ◌<◌, [], length, sym, subst, ◌∙◌}
use Rattle.desk_data.specs.PlanRows.{PlanRows, AreGroups, groups_at}
use Rattle.plan_pages.proofs.pages.Pages.groups.Goals as goal

pub returns-clause-groups : goal.returns-clause-groups
returns-clause-groups c =
    subst (λ (P : PlanRows). c.as_slice.result.now ≡ groups_at P c.args.res.0) c.self.view_is (c.as_slice.ensures ∙ c.at.ensures [])

pub returns-clause-sound : goal.returns-clause-sound
returns-clause-sound c =
    let lt : c.args.res.0 < length c.self.inside.groups = subst (λ (P : PlanRows). c.args.res.0 < length P.groups) (sym c.self.view_is) c.requires in
    subst AreGroups (sym (c.as_slice.ensures ∙ c.at.ensures [])) (c.self.invariant.groups c.args.res.0 [] lt)

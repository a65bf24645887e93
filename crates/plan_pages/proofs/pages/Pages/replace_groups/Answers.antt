use Rattle.std.proofs.Common.{sym, subst}
use Rattle.desk_data.specs.PlanRows.{AreGroups}
use Rattle.plan_pages.specs.Pages.{IsPageOf}
use Rattle.plan_pages.proofs.PageLaws.{all_on_page, groups_sound}
use Rattle.plan_pages.proofs.pages.Pages.replace_groups.Goals as goal

pub invariant_of-self-2 : goal.invariant_of-self-2
invariant_of-self-2 c =
    groups_sound (record { rows = c.self.inside.rows; groups = c.self.inside.groups }) c.replace.new.self c.args.res.0 c.in_ok-groups.groups
    c.self.invariant c.in_ok-page.ensures.ok (subst AreGroups (sym c.in_ok-groups.ensures) c.requires.groups)

pub returns-clause-place : goal.returns-clause-place
unfolding IsPageOf
returns-clause-place c = (c.in_ok-page.ensures.place, all_on_page AreGroups c.replace.new.self c.self.inside.groups c.in_ok-page.page c.in_ok-page.ensures.back c.self.invariant.groups)

use Rattle.desk_data.specs.PlanRows.{IsRow}
use Rattle.plan_pages.specs.Pages.{IsPageOf}
use Rattle.plan_pages.proofs.PageLaws.{all_on_page}
use Rattle.plan_pages.proofs.pages.Pages.replace_row.Goals as goal

pub returns-clause-place : goal.returns-clause-place
unfolding IsPageOf
returns-clause-place c = (c.in_ok-page.ensures.place, all_on_page IsRow c.replace.new.self c.self.inside.rows c.in_ok-page.page c.in_ok-page.ensures.back c.self.invariant.rows)

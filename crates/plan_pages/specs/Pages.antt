-- Pages of a plan, and what a plan is with one of them in its place.
use Rattle.std.specs.Prelude.{All}
use Rattle.desk_data.specs.PlanRows.{PlanRows, IsRow, AreGroups}
use Rattle.paged_list.specs.Pages.{with_former_page, IsFormerPageOf}
use Rattle.plan_pages.specs.declared.page.Page.{Page}
use Rattle.plan_pages.specs.declared.page.What.{What}
use Rattle.plan_pages.specs.declared.page.What.TheVariants.{Rows, Groups}

-- the plan with what stands on a page in its place
abbrev pub with_what : PlanRows → What → PlanRows
with_what P (Rows page) = record P { rows = with_former_page P.rows page }
with_what P (Groups page) = record P { groups = with_former_page P.groups page }

unfoldable pub with_page : PlanRows → Page → PlanRows
with_page P page = with_what P page.what

-- what stands on a page has a place in the plan
abbrev pub HasPlace : PlanRows → What → Type 0
HasPlace P (Rows page) = IsFormerPageOf P.rows page × All IsRow page.items
HasPlace P (Groups page) = IsFormerPageOf P.groups page × All AreGroups page.items

unfoldable pub IsPageOf : PlanRows → Page → Type 0
IsPageOf P page = HasPlace P page.what

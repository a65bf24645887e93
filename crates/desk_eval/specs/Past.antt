-- What every evaluator keeps.
use Rattle.std.specs.Prelude.{◌≤◌, List, [], ◌∷◌, length, reverse}
use Rattle.desk_data.specs.Situation.{Situation}
use Rattle.desk_data.specs.PlanRows.{PlanRows}
use Rattle.desk_data.specs.Valid.{IsPlanFor}
use Rattle.plan_pages.specs.declared.page.Page.{Page}
use Rattle.plan_pages.specs.Pages.{with_page, IsPageOf}
use Rattle.desk_eval.specs.Boards.{AllBoards, AreBoardsOf}

-- the plans before changes, by the pages that they took, the last change first
abbrev pub plans_before : PlanRows → List Page → List PlanRows
plans_before P [] = []
plans_before P (page ∷ earlier) = with_page P page ∷ plans_before (with_page P page) earlier

-- a change that led to plan P, and took a page from a plan for the instance
pub record LeadsTo (I : Situation) (P : PlanRows) (page : Page) : Type 0 where
  pub stood : IsPageOf P page
  pub valid : IsPlanFor I (with_page P page)

-- changes that led to plan P, the last first
abbrev pub AreChanges : Situation → PlanRows → List Page → Type 0
AreChanges I P [] = Unit {0}
AreChanges I P (page ∷ earlier) = LeadsTo I P page × AreChanges I (with_page P page) earlier

-- a plan for the instance with its boards, and the changes that led to it, the last of them last
pub record IsEvaluator (I : Situation) (P : PlanRows) (all : AllBoards) (past : List Page) : Type 0 where
  pub valid : IsPlanFor I P
  pub boards : AreBoardsOf I P (plans_before P (reverse past)) all
  pub changes : AreChanges I P (reverse past)
  pub few : length past ≤ 2000000000

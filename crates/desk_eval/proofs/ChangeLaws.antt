-- One change more: a page in its place in the plan, and the page that stood there at the end of the past.
use Rattle.std.proofs.Common.{◌≡◌, ◌<◌, List, [], ◌∷◌, ◌++◌, length, reverse, Ok, Err, sym, ap, subst, ◌∙◌}
use Rattle.std.specs.Prelude.{Result, IsOk, is_ok, if◌then◌else◌}
use Rattle.desk_data.specs.Situation.{Situation}
use Rattle.desk_data.specs.PlanRows.{PlanRows}
use Rattle.desk_data.specs.Valid.{IsPlanFor}
use Rattle.plan_pages.specs.declared.page.Page.{Page}
use Rattle.plan_pages.specs.Pages.{with_page, IsPageOf}
use Rattle.board_kit.specs.Boards.{IsChanged}
use Rattle.desk_eval.specs.Boards.{AllBoards, AreBoardsOf}
use Rattle.desk_eval.specs.Evaluated.{Evaluated}
use Rattle.desk_eval.specs.Past.{plans_before, IsEvaluator}
use Rattle.desk_eval.proofs.PastLaws.{past_pushed, kept_changed}

-- what a change left: the plan now, the page that it took, and the past with that page at its end
pub record IsMade (P Q : PlanRows) (past : List Page) (now : PlanRows) (had : Page) (pushed : List Page) : Type 0 where
  pub plan : now ≡ Q
  pub back : with_page now had ≡ P
  pub place : IsPageOf now had
  pub at_end : pushed ≡ past ++ had ∷ []

-- the evaluator that a change leaves
pub evaluator_made : (I : Situation) (P Q now : PlanRows) (old new : AllBoards) (past pushed : List Page) (had : Page) → IsEvaluator I P old past → length past < 2000000000 → IsPlanFor I Q → IsMade P Q past now had pushed → IsChanged AreBoardsOf I P Q old new → IsEvaluator I now new pushed
evaluator_made I P Q now old new past pushed had kept few valid made so =
    subst (IsEvaluator I now new) (sym made.at_end)
    (kept_changed I P now old new past had kept few (subst (IsPlanFor I) (sym made.plan) valid) made.place made.back
    (subst (λ (R : PlanRows). IsChanged AreBoardsOf I P R old new) (sym made.plan) so))

-- what is seen of it
abbrev evaluated : Situation → PlanRows → List PlanRows → Evaluated
evaluated I P Ps = record { inst = I; rows = P; past = Ps }

pub seen_made : (I : Situation) (P Q now : PlanRows) (past pushed : List Page) (had : Page) → IsMade P Q past now had pushed → evaluated I now (plans_before now (reverse pushed)) ≡ evaluated I Q (P ∷ plans_before P (reverse past))
seen_made I P Q now past pushed had made =
    ap (λ (pages : List Page). evaluated I now (plans_before now (reverse pages))) made.at_end
    ∙ ap (evaluated I now) (past_pushed P now past had made.back)
    ∙ ap (λ (R : PlanRows). evaluated I R (P ∷ plans_before P (reverse past))) made.plan

-- what is pushed where there is room is at the end
pub pushed_ok : {X E : Type 0} (r : Result X E) (long short now : List Page) → now ≡ (if is_ok r then long else short) → IsOk r → now ≡ long
pushed_ok (Ok x) long short now is ok = is
pushed_ok (Err e) long short now is ok = absurd cc

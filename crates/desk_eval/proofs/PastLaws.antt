-- The past, as a change is added and taken back.
use Rattle.std.proofs.Common.{◌≡◌, suc, ◌<◌, List, [], ◌∷◌, ◌++◌, length, reverse, refl, sym, ap, ◌∙◌, subst, arith, length-append}
use Rattle.std.proofs.lemmas.List.{reverse-append, length-reverse}
use Rattle.desk_data.specs.Situation.{Situation}
use Rattle.desk_data.specs.PlanRows.{PlanRows}
use Rattle.desk_data.specs.Valid.{IsPlanFor}
use Rattle.plan_pages.specs.declared.page.Page.{Page}
use Rattle.plan_pages.specs.Pages.{with_page, IsPageOf}
use Rattle.desk_eval.specs.Boards.{AllBoards, AreBoardsOf}
use Rattle.board_kit.specs.Boards.{IsReady, CanGoBack, IsChanged, IsUnchanged, IsTakenBack}
use Rattle.desk_eval.specs.Past.{plans_before, LeadsTo, AreChanges, IsEvaluator}

length-plans_before : (P : PlanRows) (past : List Page) → length (plans_before P past) ≡ length past
length-plans_before P [] = refl
length-plans_before P (page ∷ earlier) = ap (λ n. suc n) (length-plans_before (with_page P page) earlier)

-- the past has a plan for each change
pub length-past : (P : PlanRows) (past : List Page) → length (plans_before P (reverse past)) ≡ length past
length-past P past = length-plans_before P (reverse past) ∙ length-reverse past

-- the last change comes first
reverse-push : (past : List Page) (page : Page) → reverse (past ++ page ∷ []) ≡ page ∷ reverse past
reverse-push past page = reverse-append past (page ∷ [])

-- one change more, to plan Q: the plan before it comes first in the past
pub past-push : (Q : PlanRows) (past : List Page) (page : Page) → plans_before Q (reverse (past ++ page ∷ [])) ≡ with_page Q page ∷ plans_before (with_page Q page) (reverse past)
past-push Q past page = ap (plans_before Q) (reverse-push past page)

-- one change more, from plan P to plan Q
pub past_pushed : (P Q : PlanRows) (past : List Page) (page : Page) → with_page Q page ≡ P → plans_before Q (reverse (past ++ page ∷ [])) ≡ P ∷ plans_before P (reverse past)
past_pushed P Q past page back = past-push Q past page ∙ ap (λ (R : PlanRows). R ∷ plans_before R (reverse past)) back

-- the boards have room for one change more
pub ready : (I : Situation) (P : PlanRows) (boards : AllBoards) (past : List Page) → IsEvaluator I P boards past → length past < 2000000000 → IsReady (AreBoardsOf I P) boards
ready I P boards past kept few = record {
  plans = plans_before P (reverse past);
  board = kept.boards;
  few = omega (arith, few, length-past P past);
}

pub kept_changed : (I : Situation) (P Q : PlanRows) (boards now : AllBoards) (past : List Page) (page : Page) → IsEvaluator I P boards past → length past < 2000000000 → IsPlanFor I Q → IsPageOf Q page → with_page Q page ≡ P → IsChanged AreBoardsOf I P Q boards now → IsEvaluator I Q now (past ++ page ∷ [])
kept_changed I P Q boards now past page kept few valid stood back so =
    let earlier = subst (λ (R : PlanRows). AreChanges I R (reverse past)) (sym back) kept.changes in
    let led : LeadsTo I Q page = record { stood = stood; valid = subst (IsPlanFor I) (sym back) kept.valid } in
    record {
      valid = valid;
      boards = subst (λ (Ps : List PlanRows). AreBoardsOf I Q Ps now) (sym (past_pushed P Q past page back)) (so (plans_before P (reverse past)) kept.boards);
      changes = subst (AreChanges I Q) (sym (reverse-push past page)) (led, earlier);
      few = omega (arith, few, length-append past (page ∷ []));
    }

-- a change was not made
pub kept_same : (I : Situation) (P : PlanRows) (boards now : AllBoards) (past : List Page) → IsEvaluator I P boards past → IsUnchanged AreBoardsOf I P boards now → IsEvaluator I P now past
kept_same I P boards now past kept so = record { valid = kept.valid; boards = so (plans_before P (reverse past)) kept.boards; changes = kept.changes; few = kept.few }

-- the last change can be taken back
pub can_go_back : (I : Situation) (P : PlanRows) (boards : AllBoards) (past : List Page) (page : Page) → IsEvaluator I P boards (past ++ page ∷ []) → CanGoBack AreBoardsOf boards
can_go_back I P boards past page kept = record {
  inst = I;
  plan = P;
  before = with_page P page;
  plans = plans_before (with_page P page) (reverse past);
  board = subst (λ (Ps : List PlanRows). AreBoardsOf I P Ps boards) (past-push P past page) kept.boards;
}

-- and so is the evaluator that it leaves
pub kept_back : (I : Situation) (P : PlanRows) (boards now : AllBoards) (past : List Page) (page : Page) → IsEvaluator I P boards (past ++ page ∷ []) → IsTakenBack AreBoardsOf boards now → IsEvaluator I (with_page P page) now past
kept_back I P boards now past page kept so =
    let changes = subst (AreChanges I P) (reverse-push past page) kept.changes in
    record {
      valid = changes.0.valid;
      boards = so I P (with_page P page) (plans_before (with_page P page) (reverse past))
          (subst (λ (Ps : List PlanRows). AreBoardsOf I P Ps boards) (past-push P past page) kept.boards);
      changes = changes.1;
      few = (let all = kept.few in omega (arith, all, length-append past (page ∷ [])));
    }

-- what the last change page has a place
pub last_stood : (I : Situation) (P : PlanRows) (boards : AllBoards) (past : List Page) (page : Page) → IsEvaluator I P boards (past ++ page ∷ []) → IsPageOf P page
last_stood I P boards past page kept = (subst (AreChanges I P) (reverse-push past page) kept.changes).0.stood

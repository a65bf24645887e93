-- A walk, as its plan changes, changes are taken back, and the past is emptied.
use Rattle.std.proofs.Common.{◌≡◌, ◌<◌, List, [], ◌∷◌, ◌++◌, length, reverse, sym, ap, subst, ◌∙◌, arith}
use Rattle.std.specs.List.{All}
use Rattle.std.proofs.lemmas.List.{reverse-append, length-reverse}
use Rattle.std.proofs.lemmas.List.Elements.{All-nil, All-cons, All-head, All-tail}
use Rattle.desk_data.specs.Situation.{Situation}
use Rattle.desk_data.specs.PlanRows.{PlanRows}
use Rattle.desk_data.specs.Valid.{IsPlanFor}
use Rattle.board_kit.specs.Boards.{IsReady, CanGoBack, IsChanged, IsTakenBack, HasNoPast}
use Rattle.desk_tests.specs.Walks.{IsWalk}

-- of which board a board is
abbrev pub IsBoard : Type 0 → Type 1
IsBoard B = Situation → PlanRows → List PlanRows → B → Type 0

-- there is room for one change more
pub ready : {B : Type 0} (is : IsBoard B) (I : Situation) (board : B) (P : PlanRows) (past : List PlanRows) → IsWalk is I board P past → length past < 2000000000 → IsReady (is I P) board
ready is I board P past walk few = record { plans = reverse past; board = walk.kept; few = omega (arith, few, length-reverse past) }

-- the last plan comes first
last_first : (past : List PlanRows) (P : PlanRows) → reverse (past ++ P ∷ []) ≡ P ∷ reverse past
last_first past P = reverse-append past (P ∷ [])

-- one change more, from plan P to plan Q
changed : {B : Type 0} (is : IsBoard B) (I : Situation) (old new : B) (P Q : PlanRows) (past : List PlanRows) → IsWalk is I old P past → IsPlanFor I Q → IsChanged is I P Q old new → IsWalk is I new Q (past ++ P ∷ [])
changed is I old new P Q past walk valid so = record {
  valid = valid;
  kept = subst (λ (Ps : List PlanRows). is I Q Ps new) (sym (last_first past P)) (so (reverse past) walk.kept);
  before = subst (All (IsPlanFor I)) (sym (last_first past P)) (All-cons (IsPlanFor I) P (reverse past) walk.valid walk.before);
}

-- the same, of what a change left: the plan now, the plan that was kept, and the past with that at its end
pub changed_to : {B : Type 0} (is : IsBoard B) (I : Situation) (old new : B) (P Q now before : PlanRows) (past pushed : List PlanRows) → IsWalk is I old P past → IsPlanFor I Q → IsChanged is I P Q old new → now ≡ Q → before ≡ P → pushed ≡ past ++ before ∷ [] → IsWalk is I new now pushed
changed_to is I old new P Q now before past pushed walk valid so is_now is_before at_end =
    subst (λ (R : PlanRows). IsWalk is I new R pushed) (sym is_now)
    (subst (λ (Ps : List PlanRows). IsWalk is I new Q Ps) (sym (at_end ∙ ap (λ (R : PlanRows). past ++ R ∷ []) is_before))
    (changed is I old new P Q past walk valid so))

-- the board of a walk whose last plan is known
board_of : {B : Type 0} (is : IsBoard B) (I : Situation) (board : B) (P Q : PlanRows) (past : List PlanRows) → IsWalk is I board P (past ++ Q ∷ []) → is I P (Q ∷ reverse past) board
board_of is I board P Q past walk = subst (λ (Ps : List PlanRows). is I P Ps board) (last_first past Q) walk.kept

-- the last change can be taken back
pub can_go_back : {B : Type 0} (is : IsBoard B) (I : Situation) (board : B) (P Q : PlanRows) (past : List PlanRows) → IsWalk is I board P (past ++ Q ∷ []) → CanGoBack is board
can_go_back is I board P Q past walk = record { inst = I; plan = P; before = Q; plans = reverse past; board = board_of is I board P Q past walk }

-- and so is the walk that it leaves
pub taken_back : {B : Type 0} (is : IsBoard B) (I : Situation) (board now : B) (P Q : PlanRows) (past : List PlanRows) → IsWalk is I board P (past ++ Q ∷ []) → IsTakenBack is board now → IsWalk is I now Q past
taken_back is I board now P Q past walk so =
    let before = subst (All (IsPlanFor I)) (last_first past Q) walk.before in
    record {
      valid = All-head (IsPlanFor I) Q (reverse past) before;
      kept = so I P Q (reverse past) (board_of is I board P Q past walk);
      before = All-tail (IsPlanFor I) Q (reverse past) before;
    }

-- the past is emptied
pub forgotten : {B : Type 0} (is : IsBoard B) (I : Situation) (board now : B) (P : PlanRows) (past : List PlanRows) → IsWalk is I board P past → HasNoPast is board now → IsWalk is I now P []
forgotten is I board now P past walk so = record { valid = walk.valid; kept = so I P (reverse past) walk.kept; before = All-nil (IsPlanFor I) }

-- The board after a change, and after a change is taken back.
use Rattle.std.proofs.Common.{◌≡◌, ◌∙◌, ◌++◌, reverse, ℕ, ◌+◌, ◌-◌, ◌<◌, ◌≤◌, List, [], ◌∷◌, length, subst, sym, ap, arith}
use Rattle.std.specs.Prelude.{Option, None}
use Rattle.std.proofs.lemmas.List.{reverse-append}
use Rattle.desk_data.specs.declared.row.Row.{Row}
use Rattle.desk_data.specs.Situation.{Situation, legs_of}
use Rattle.desk_data.specs.PlanRows.{PlanRows, row_at, with_row}
use Rattle.board_kit.specs.declared.slot.By.{By}
use Rattle.hour_counts.specs.declared.slot.Slot.{Slot}
use Rattle.board_kit.specs.declared.slot.SlotLoad.{SlotLoad}
use Rattle.board_kit.specs.declared.slot.SlotUse.{SlotUse}
use Rattle.board_kit.specs.declared.slot.SlotChange.{SlotChange}
use Rattle.board_kit.specs.Slots.{taken, slots_of, among, AreCounted, AreKnown, KeepsKnown, IsReady, Enters, Leaves, LoadRows}
use Rattle.board_kit.specs.Board.{IsChange, AreChanges, Board, IsBoardOf}
use Rattle.board_kit.proofs.PlanLaws.{slots_change, first_few}
use Rattle.board_kit.proofs.CountLaws.{counted_same}
use Rattle.board_kit.proofs.KnowLaws.{keeps_both}

keeps_changes : (I : Situation) (old new : List (Slot × SlotLoad)) (P : PlanRows) (Ps : List PlanRows) (changes : List SlotChange) → KeepsKnown old new → AreChanges I old P Ps changes → AreChanges I new P Ps changes
keeps_changes I old new P [] [] keeps are = tt
keeps_changes I old new P [] (c ∷ cs) keeps are = absurd are
keeps_changes I old new P (Q ∷ Qs) [] keeps are = absurd are
keeps_changes I old new P (Q ∷ Qs) (c ∷ cs) keeps are =
    (record { counts = are.0.counts; gone = keeps_both old new c.gone keeps are.0.gone; come = keeps_both old new c.come keeps are.0.come }, keeps_changes I old new Q Qs cs keeps are.1)

-- the board by its loads and by its changes, the last of them last
abbrev pub board_by : LoadRows → List SlotChange → Board
board_by loads past = record { loads = loads; past = reverse past }

-- more slots are known: the board stays that of its plan
pub ready_board : (I : Situation) (P : PlanRows) (Ps : List PlanRows) (old ready : LoadRows) (past : List SlotChange) (board : Board) → board_by old past ≡ board → IsReady I old ready → IsBoardOf I P Ps board → IsBoardOf I P Ps (board_by ready past)
ready_board I P Ps old ready past board view so at =
    let is : IsBoardOf I P Ps (board_by old past) = subst (IsBoardOf I P Ps) (sym view) at in
    record { few = is.few; depth = is.depth; loads = so.counted (taken I P) is.loads; past = keeps_changes I old.loads ready.loads P Ps (reverse past) so.known is.past }

-- changes that are the same
pub whole_board : (I : Situation) (P : PlanRows) (Ps : List PlanRows) (loads : LoadRows) (past same : List SlotChange) → same ≡ past → IsBoardOf I P Ps (board_by loads past) → IsBoardOf I P Ps (board_by loads same)
whole_board I P Ps loads past same is board = subst (λ changes. IsBoardOf I P Ps (board_by loads changes)) (sym is) board

-- a change more
pub pushed_board : (I : Situation) (P : PlanRows) (Ps : List PlanRows) (loads : LoadRows) (past all : List SlotChange) (change : SlotChange) → all ≡ past ++ change ∷ [] → IsBoardOf I P Ps (record { loads = loads; past = change ∷ reverse past }) → IsBoardOf I P Ps (board_by loads all)
pushed_board I P Ps loads past all change is board =
    subst (λ changes. IsBoardOf I P Ps (record { loads = loads; past = changes })) (sym (ap reverse is ∙ reverse-append past (change ∷ []))) board

-- one leg's slots come, and other slots go
pub record AreMoved (old mid new : LoadRows) (come gone : Option SlotUse) : Type 0 where
  pub entered : Enters old.loads mid.loads come
  pub known : KeepsKnown old.loads mid.loads
  pub left : Leaves mid.loads new.loads gone
  pub known_too : KeepsKnown mid.loads new.loads

few_at : (I : Situation) (P : PlanRows) → legs_of I ≤ 20000 → (by : By) (s : Slot) → taken I P by s ≤ 4000000000
few_at I P few by s = omega (arith, first_few (legs_of I) I P by s, few)

-- so the counts of one plan become those of another
moved_counts : (I : Situation) (P Q : PlanRows) (old mid new : LoadRows) (come gone : Option SlotUse) → legs_of I ≤ 20000 → AreCounted I (taken I P) old.loads → AreKnown old.loads come → AreKnown old.loads gone → AreMoved old mid new come gone → ((by : By) (s : Slot) → taken I Q by s + among by gone s ≡ taken I P by s + among by come s) → AreCounted I (taken I Q) new.loads
moved_counts I P Q old mid new come gone few are come_known gone_known moves change =
    let once = moves.entered I (taken I P) are come_known (few_at I P few) in
    let m : By → Slot → ℕ = λ by s. taken I P by s + among by come s in
    let twice = moves.left I m once (keeps_both old.loads mid.loads gone moves.known gone_known) (λ by s. omega (arith, change by s)) in
    counted_same I (λ by s. m by s - among by gone s) (taken I Q) new.loads twice (λ by s. omega (arith, change by s))

keeps_all : (old mid new : LoadRows) (come gone : Option SlotUse) → AreMoved old mid new come gone → KeepsKnown old.loads new.loads
keeps_all old mid new come goes moves s known = moves.known_too s (moves.known s known)

-- the last change is taken back
pub back_board : (I : Situation) (P Q : PlanRows) (Qs : List PlanRows) (old mid new : LoadRows) (change : SlotChange) (past : List SlotChange) → AreMoved old mid new change.gone change.come → IsBoardOf I P (Q ∷ Qs) (record { loads = old; past = change ∷ past }) → IsBoardOf I Q Qs (record { loads = new; past = past })
back_board I P Q Qs old mid new change past moves is =
    let last = is.past.0 in
    record {
      few = is.few;
      depth = (let all = is.depth in omega (arith, all));
      loads = moved_counts I P Q old mid new change.gone change.come is.few is.loads last.gone last.come moves last.counts;
      past = keeps_changes I old.loads new.loads Q Qs past (keeps_all old mid new change.gone change.come moves) is.past.1;
    }

-- a leg has another row
pub set_board : (I : Situation) (P : PlanRows) (Ps : List PlanRows) (x : ℕ) (row : Row) (old mid new : LoadRows) (change : SlotChange) (past : List SlotChange) → x < legs_of I → x < length P.rows → change.gone ≡ slots_of I x (row_at P x) → change.come ≡ slots_of I x row → AreKnown old.loads change.gone → AreKnown old.loads change.come → AreMoved old mid new change.come change.gone → IsBoardOf I P Ps (board_by old past) → IsBoardOf I (with_row P x row) (P ∷ Ps) (record { loads = new; past = change ∷ reverse past })
set_board I P Ps x row old mid new change past lt within left took gone_known come_known moves is =
    let Q = with_row P x row in
    let counts : (by : By) (s : Slot) → taken I Q by s + among by change.gone s ≡ taken I P by s + among by change.come s = λ by s. rw (left, took) (slots_change by I P s x row lt within) in
    let keeps = keeps_all old mid new change.come change.gone moves in
    record {
      few = is.few;
      depth = (let all = is.depth in omega (arith, all));
      loads = moved_counts I P Q old mid new change.come change.gone is.few is.loads come_known gone_known moves counts;
      past = (
        record { counts = λ by s. sym (counts by s); gone = keeps_both old.loads new.loads change.gone keeps gone_known; come = keeps_both old.loads new.loads change.come keeps come_known },
        keeps_changes I old.loads new.loads P Ps (reverse past) keeps is.past,
      );
    }

-- a change that no slot is left or taken with
pub stayed_board : (I : Situation) (P Q : PlanRows) (Ps : List PlanRows) (old new : Board) → ((by : By) (s : Slot) → taken I Q by s ≡ taken I P by s) → new.loads.loads ≡ old.loads.loads → new.past ≡ (record { gone = None; come = None }) ∷ old.past → IsBoardOf I P Ps old → IsBoardOf I Q (P ∷ Ps) new
stayed_board I P Q Ps old new same loads past is =
    let change : IsChange I new.loads.loads Q P (record { gone = None; come = None }) = record { counts = λ by s. omega (arith, same by s); gone = tt; come = tt } in
    record {
      few = is.few;
      depth = rw past (let all = is.depth in omega (arith, all));
      loads = counted_same I (taken I P) (taken I Q) new.loads.loads (subst (AreCounted I (taken I P)) (sym loads) is.loads) (λ by s. sym (same by s));
      past = rw past (change, subst (λ loads. AreChanges I loads P Ps old.past) (sym loads) is.past);
    }

-- a change that was not made
pub kept_board : (I : Situation) (P : PlanRows) (Ps : List PlanRows) (old new : Board) → new.loads.loads ≡ old.loads.loads → new.past ≡ old.past → IsBoardOf I P Ps old → IsBoardOf I P Ps new
kept_board I P Ps old new loads past is =
    record { few = is.few; depth = rw past is.depth; loads = rw loads is.loads; past = rw (past, loads) is.past }

-- a leg takes the slots that it left
pub same_taken : (I : Situation) (P : PlanRows) (x : ℕ) (row : Row) (was now : Option SlotUse) → was ≡ slots_of I x (row_at P x) → now ≡ slots_of I x row → was ≡ now → x < legs_of I → x < length P.rows → (by : By) (s : Slot) → taken I (with_row P x row) by s ≡ taken I P by s
same_taken I P x row was now left took same lt within by s =
    let kept : slots_of I x (row_at P x) ≡ slots_of I x row = sym left ∙ same ∙ took in
    omega (arith, slots_change by I P s x row lt within, ap (λ taken. among by taken s) kept)

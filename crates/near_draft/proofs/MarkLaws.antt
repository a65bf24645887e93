-- The marks of the legs that have changes.
use Rattle.std.proofs.Common.{◌≡◌, ℕ, ◌<◌, ◌%◌, inl, inr, Bool, true, false, List, [], ◌∷◌, ◌++◌, length, get_or, set, sym, subst, ◌∙◌, arith}
use Rattle.std.proofs.lemmas.Bool.{true≢false, cases_Bool, cases_eq}
use Rattle.std.proofs.lemmas.List.{get_or-set_same, get_or-set_other, length-set}
use Rattle.std.proofs.lemmas.List.Elements.{All-push, All-weaker}
use Rattle.desk_data.specs.PlanRows.{PlanRows, row_at}
use Rattle.near_draft.specs.declared.change.Change.{Change}
use Rattle.near_draft.specs.Drafts.{drafted}
use Rattle.near_draft.specs.Kept.{AreMarked}
use Rattle.near_draft.proofs.ChangeLaws.{no_change}
use Rattle.near_draft.proofs.LegLaws.{is_changed, changed-at, unchanged-row}

-- a leg without a mark has its row
pub unmarked-row : (P : PlanRows) (changes : List Change) (marks : List Bool) (x : ℕ) → AreMarked changes marks → get_or marks (x % 64) false ≡ false → row_at P x ≡ row_at (drafted P changes) x
unmarked-row P changes marks x are none =
    elim (cases_Bool (is_changed changes x)) [
      | inr other ↦ sym (unchanged-row P changes x other)
      | inl some ↦
          let at = changed-at changes x some in
          let marked : get_or marks (x % 64) false ≡ true = subst (λ (y : ℕ). get_or marks (y % 64) false ≡ true) at.is (are.marked at.place no_change at.within) in
          absurd (true≢false (sym marked ∙ none))
    ]

-- one mark more
marked-set : (marks : List Bool) (i j : ℕ) → i < length marks → get_or marks j false ≡ true → get_or (set marks i true) j false ≡ true
marked-set marks i j lt marked =
    elim (cases_eq j i) [
      | inl same ↦ subst (λ (k : ℕ). get_or (set marks i true) k false ≡ true) (sym same) (get_or-set_same marks i true false lt)
      | inr other ↦ get_or-set_other marks i j true false other ∙ marked
    ]

pub marked-push : (changes : List Change) (marks : List Bool) (change : Change) → change.leg.0 % 64 < 64 → AreMarked changes marks → AreMarked (changes ++ change ∷ []) (set marks (change.leg.0 % 64) true)
marked-push changes marks change small are =
    let i = change.leg.0 % 64 in
    let lt : i < length marks = omega (arith, small, are.many) in
    let M : Change → Type 0 = λ (c : Change). get_or marks (c.leg.0 % 64) false ≡ true in
    let N : Change → Type 0 = λ (c : Change). get_or (set marks i true) (c.leg.0 % 64) false ≡ true in
    record {
      many = length-set marks i true ∙ are.many;
      marked = All-push N changes change (All-weaker M N (λ c marked. marked-set marks i (c.leg.0 % 64) lt marked) changes are.marked) (get_or-set_same marks i true false lt);
    }

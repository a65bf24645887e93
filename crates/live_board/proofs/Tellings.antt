-- What one tell more makes of a board's history.
use Rattle.std.proofs.Common.{◌≡◌, ◌≢◌, ◌≤◌, ℕ, zero, suc, length, take, arith, List, [], ◌∷◌, ◌++◌, Option, Some, None, refl, sym, ap, ◌∙◌, append_assoc, fold, All, subst}
use Rattle.std.specs.Prelude.{IfSome}
use Rattle.std.proofs.lemmas.List.{append-nil}
use Rattle.std.proofs.lemmas.List.Elements.{All-push}
use mathlib.Core.List.{IsPrefix}
use Rattle.live_board.specs.declared.told.Told.{Told}
use Rattle.live_board.specs.Histories.{tells, history, origin}

module _ {B I : Type 0} where
  pub history_grows : (log : List (Told B I)) (xs : List I) → history (log ++ tells xs ∷ []) ≡ history log ++ xs
  history_grows [] xs = append-nil xs
  history_grows (t ∷ log) xs = ap (λ h. t.entries ++ h) (history_grows log xs) ∙ sym (append_assoc t.entries (history log) xs)

  pub origin_before : (log : List (Told B I)) (xs : List I) (b : B) → origin (log ++ tells xs ∷ []) ≡ Some b → origin log ≡ Some b
  origin_before [] xs b is = is
  origin_before (t ∷ log) xs b is = is

  -- what was opened stays so
  pub origin_after : (log : List (Told B I)) (xs : List I) → origin log ≢ None → origin (log ++ tells xs ∷ []) ≢ None
  origin_after [] xs not_none is = not_none refl
  origin_after (t ∷ log) xs not_none is = not_none is

  pub history-append : (log more : List (Told B I)) → history (log ++ more) ≡ history log ++ history more
  history-append [] more = refl
  history-append (t ∷ log) more = ap (λ h. t.entries ++ h) (history-append log more) ∙ sym (append_assoc t.entries (history log) (history more))

  pub histories_begin : (log more : List (Told B I)) → IsPrefix log more → IsPrefix (history log) (history more)
  histories_begin log more p = (history p.0, sym (history-append log p.0) ∙ ap history p.1)

  pub origin_same : (log more : List (Told B I)) → origin log ≢ None → IsPrefix log more → origin more ≡ origin log
  origin_same [] more not_none p = absurd (not_none refl)
  origin_same (t ∷ log) more not_none p = ap origin (sym p.1)

pub some_at : {A : Type 0} (o : Option A) (a : A) (P : A → Type 0) → IfSome o P → o ≡ Some a → P a
some_at {A} o a P h is = subst (λ (p : Option A). IfSome p P) is h

pub some_of : {A : Type 0} (o : Option A) → o ≢ None → (a : A) × (o ≡ Some a)
some_of None not_none = absurd (not_none refl)
some_of (Some a) not_none = (a, refl)

pub take_whole : {A : Type 0} (xs : List A) (n : ℕ) → length xs ≤ n → take n xs ≡ xs
take_whole [] zero le = refl
take_whole [] (suc n) le = refl
take_whole (x ∷ xs) zero le = absurd (omega arith)
take_whole (x ∷ xs) (suc n) le = ap (λ ys. x ∷ ys) (take_whole xs n (omega arith))

-- where each operation replaces what there was, the last one counts
pub fold_last : {A O : Type 0} (f : A → O → A) (a : A) (xs : List O) (y : O) → fold f a (xs ++ y ∷ []) ≡ f (fold f a xs) y
fold_last f a [] y = refl
fold_last f a (x ∷ xs) y = fold_last f (f a x) xs y

pub pushed : {V L : Type 0} (key : V → L) (k : L) (xs new : List V) (v : V) → new ≡ xs ++ v ∷ [] → key v ≡ k → All (λ (v : V). key v ≡ k) xs → All (λ (v : V). key v ≡ k) new
pushed {V} key k xs new v is here all = subst (λ (l : List V). All (λ (v : V). key v ≡ k) l) (sym is) (All-push (λ (v : V). key v ≡ k) xs v all here)

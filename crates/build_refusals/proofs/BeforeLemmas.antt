-- Whether a row that passes a test is among the first rows.
use Rattle.std.proofs.Common.{◌≡◌, ℕ, zero, suc, Bool, true, false, cond, ◌||◌, inl, inr, ltb, List, [], ◌∷◌, take, Option, Some, None, refl, sym, ap, ◌∙◌, arith}
use Rattle.std.specs.Prelude.{option_map}
use Rattle.std.specs.Option.{option_map_or}
use Rattle.std.specs.List.{position, list_any}
use Rattle.std.proofs.lemmas.Bool.{lt-ltb, le-ltb, cases_lt}
use Rattle.build_tables.proofs.PlaceLemmas.{position-cons}

-- whether one of the first n rows passes: the first place that passes is among them
before_by : (b : Bool) (n : ℕ) (o : Option ℕ) → option_map_or (λ k. ltb k (suc n)) (cond b (Some 0) (option_map suc o)) false ≡ (b || option_map_or (λ k. ltb k n) o false)
before_by true n o = lt-ltb 0 (suc n) (omega arith)
before_by false n None = refl
before_by false n (Some k) = elim (cases_lt k n) [
  | inl below ↦ lt-ltb (suc k) (suc n) (omega arith) ∙ sym (lt-ltb k n below)
  | inr past ↦ le-ltb (suc k) (suc n) (omega arith) ∙ sym (le-ltb k n past)
]

none_before : (o : Option ℕ) → option_map_or (λ k. ltb k 0) o false ≡ false
none_before None = refl
none_before (Some k) = le-ltb k 0 (omega arith)

pub stood_before : {A : Type 0} (p : A → Bool) (n : ℕ) (xs : List A) → option_map_or (λ k. ltb k n) (position p xs) false ≡ list_any p (take n xs)
stood_before p zero xs = none_before (position p xs)
stood_before p (suc n) [] = refl
stood_before p (suc n) (x ∷ xs) =
    ap (λ o. option_map_or (λ k. ltb k (suc n)) o false) (position-cons p x xs)
    ∙ before_by (p x) n (position p xs)
    ∙ ap (λ b. p x || b) (stood_before p n xs)

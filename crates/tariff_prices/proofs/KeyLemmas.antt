-- Rows of which no two are for the same.
use Rattle.std.proofs.Common.{◌≡◌, ℕ, ◌+◌, ◌<◌, Bool, true, false, List, length, take, get_or, refl, sym, ap, ◌∙◌, arith}
use Rattle.std.specs.List.{AllPairs, list_any}
use Rattle.std.proofs.lemmas.List.{take_more, length-take, get_or-take, get_or_read}
use Rattle.std.proofs.lemmas.List.Folds.{list_any_at, Any-from_list_any}
use Rattle.std.proofs.lemmas.List.Quantifiers.{all_pairs_push}

untrue : (b : Bool) → (b ≡ true → ⊥) → b ≡ false
untrue true h = absurd (h refl)
untrue false h = refl

contradiction : {b : Bool} → b ≡ false → b ≡ true → ⊥
contradiction absent present = cc

module _ {X : Type 0} (same : X → X → Bool) where
  -- one more row, which is for what none before it is for
  pub apart_more : (xs : List X) (i : ℕ) (x : X) → i < length xs → x ≡ get_or xs i x → list_any (λ y. same y x) (take i xs) ≡ false → AllPairs (λ a b. same a b ≡ false) (take i xs) → AllPairs (λ a b. same a b ≡ false) (take (i + 1) xs)
  apart_more xs i x below is unseen apart =
      rw (take_more xs i x below, ← is) (all_pairs_push (λ a b. same a b ≡ false) (take i xs) x apart (λ k d within. untrue (same (get_or (take i xs) k d) x) (λ seen. contradiction unseen (list_any_at (λ y. same y x) (take i xs) k d within seen))))

  not_apart_at : (xs : List X) (i : ℕ) (x : X) → i < length xs → x ≡ get_or xs i x → (k : ℕ) (y : X) → k < i → get_or (take i xs) k y ≡ y → same y x ≡ true → AllPairs (λ a b. same a b ≡ false) xs → ⊥
  not_apart_at xs i x below is k y before there seen apart =
      contradiction (apart k i y before below) (ap (λ z. same z (get_or xs i y)) (sym (get_or-take i xs k y before) ∙ there) ∙ ap (same y) (sym (get_or_read xs i x below is y)) ∙ seen)

  -- a row that is for what one before it is for
  pub not_apart : (xs : List X) (i : ℕ) (x : X) → i < length xs → x ≡ get_or xs i x → list_any (λ y. same y x) (take i xs) ≡ true → AllPairs (λ a b. same a b ≡ false) xs → ⊥
  not_apart xs i x below is seen apart =
      let found = Any-from_list_any (λ y. same y x) (take i xs) seen in
      not_apart_at xs i x below is found.0 found.1 (omega (arith, found.2, length-take {A = X})) found.3 found.4 apart

-- How many items of a list pass a test, by their places.
use Rattle.std.proofs.Common.{◌≡◌, ℕ, zero, suc, ◌+◌, ◌<◌, ◌≤◌, inl, inr, Bool, true, false, List, [], ◌∷◌, length, get_or, refl, arith}
use Rattle.std.specs.List.{filter}
use Rattle.std.proofs.lemmas.Bool.{cases_Bool}

abbrev pub passed : {X : Type 0} → (X → Bool) → List X → ℕ
passed p xs = length (filter p xs)

passed_yes : {X : Type 0} (p : X → Bool) (x : X) (xs : List X) → p x ≡ true → passed p (x ∷ xs) ≡ suc (passed p xs)
passed_yes p x xs h = rw h refl

passed_no : {X : Type 0} (p : X → Bool) (x : X) (xs : List X) → p x ≡ false → passed p (x ∷ xs) ≡ passed p xs
passed_no p x xs h = rw h refl

passed_more : {X : Type 0} (p : X → Bool) (x : X) (xs : List X) → passed p xs ≤ passed p (x ∷ xs)
passed_more p x xs =
    elim (cases_Bool (p x)) [
      | inl here ↦ omega (arith, passed_yes p x xs here)
      | inr other ↦ omega (arith, passed_no p x xs other)
    ]

-- all of n places in a row pass
pub run_passed : {X : Type 0} (p : X → Bool) (d : X) (xs : List X) (i n : ℕ) → i + n ≤ length xs → ((j : ℕ) → i ≤ j → j < i + n → p (get_or xs j d) ≡ true) → n ≤ passed p xs
run_passed p d [] i n room all = omega arith
run_passed p d (x ∷ xs) zero zero room all = omega arith
run_passed p d (x ∷ xs) zero (suc n) room all =
    let rest : n ≤ passed p xs = run_passed p d xs zero n (omega arith) (λ j up below. all (suc j) (omega arith) (omega arith)) in
    omega (arith, rest, passed_yes p x xs (all zero (omega arith) (omega arith)))
run_passed p d (x ∷ xs) (suc i) n room all =
    let rest : n ≤ passed p xs = run_passed p d xs i n (omega arith) (λ j up below. all (suc j) (omega arith) (omega arith)) in
    omega (arith, rest, passed_more p x xs)

-- two places pass, the one at least n places after the other
pub record AreApart {X : Type 0} (p : X → Bool) (d : X) (xs : List X) (n : ℕ) : Type 0 where
  pub low : ℕ
  pub high : ℕ
  pub far : low + n ≤ high
  pub within : high < length xs
  pub first : p (get_or xs low d) ≡ true
  pub last : p (get_or xs high d) ≡ true

shifted : {X : Type 0} (p : X → Bool) (d x : X) (xs : List X) (n : ℕ) → AreApart p d xs n → AreApart p d (x ∷ xs) n
shifted p d x xs n at = record { low = suc at.low; high = suc at.high; far = omega (arith, at.far); within = omega (arith, at.within); first = at.first; last = at.last }

from_front : {X : Type 0} (p : X → Bool) (d x : X) (xs : List X) (n : ℕ) → p x ≡ true → AreApart p d xs n → AreApart p d (x ∷ xs) (suc n)
from_front p d x xs n here at = record { low = zero; high = suc at.high; far = omega (arith, at.far); within = omega (arith, at.within); first = here; last = at.last }

-- more than n pass
pub passed_apart : {X : Type 0} (p : X → Bool) (d : X) (xs : List X) (n : ℕ) → n < passed p xs → AreApart p d xs n
passed_apart p d [] n more = absurd (omega arith)
passed_apart p d (x ∷ xs) zero more =
    elim (cases_Bool (p x)) [
      | inl here ↦ record { low = zero; high = zero; far = omega arith; within = omega arith; first = here; last = here }
      | inr other ↦ shifted p d x xs zero (passed_apart p d xs zero (omega (arith, more, passed_no p x xs other)))
    ]
passed_apart p d (x ∷ xs) (suc n) more =
    elim (cases_Bool (p x)) [
      | inl here ↦ from_front p d x xs n here (passed_apart p d xs n (omega (arith, more, passed_yes p x xs here)))
      | inr other ↦ shifted p d x xs (suc n) (passed_apart p d xs (suc n) (omega (arith, more, passed_no p x xs other)))
    ]

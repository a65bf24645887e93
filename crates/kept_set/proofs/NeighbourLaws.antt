-- The items before and after an item.
use Rattle.std.proofs.Common.{◌≡◌, ◌≢◌, ℕ, ◌+◌, ◌-◌, ◌<◌, ◌≤◌, ◌⊎◌, inl, inr, List, length, get_or, sym, ap, ◌∙◌, arith}
use Rattle.std.specs.Prelude.{Some}
use Rattle.std.specs.List.{AllWithin, HoldsAt}
use Rattle.std.specs.Cmp.{IsTotalOrder}
use Rattle.std.specs.Ordering.{ordering_reverse}
use Rattle.std.specs.declared.cmp.Ordering.{Ordering}
use Rattle.std.specs.declared.cmp.Ordering.TheVariants.{Less, Equal, Greater}
use Rattle.std.proofs.lemmas.Cmp.{tied_back, alike_right}
use Rattle.std.proofs.lemmas.List.{get_or_default}
use Rattle.kept_set.specs.Kept.{AreRising, IsLastBefore, IsFirstAfter}

equal_not_less : (o : Ordering) → o ≡ Equal → o ≢ Less
equal_not_less o e l = absurd cc

greater_not_less : (o : Ordering) → o ≡ Greater → o ≢ Less
greater_not_less o e l = absurd cc

-- what is below one item is not above the other
less_back : {K : Type 0} {cmp : K → K → Ordering} (total : IsTotalOrder cmp) (x y : K) → cmp x y ≡ Less → cmp y x ≢ Less
less_back {cmp = cmp} total x y less = greater_not_less (cmp y x) (total.antisymm y x ∙ ap ordering_reverse less)

-- ---- of an item that is found at a place

-- the items before the place are below it
pub found_before : {K : Type 0} {cmp : K → K → Ordering} (total : IsTotalOrder cmp) (xs : List K) (i : ℕ) (x : K) → AreRising cmp xs → i < length xs → HoldsAt (λ y. cmp y x ≡ Equal) xs i → AllWithin (λ y. cmp y x ≡ Less) xs 0 i
found_before total xs i x rising within at k d low high = sym (alike_right total (get_or xs i d) x (get_or xs k d) (at d)) ∙ rising k i d high within

-- those after it are above it
pub found_after : {K : Type 0} {cmp : K → K → Ordering} (total : IsTotalOrder cmp) (xs : List K) (i : ℕ) (x : K) → AreRising cmp xs → HoldsAt (λ y. cmp y x ≡ Equal) xs i → AllWithin (λ y. cmp x y ≡ Less) xs (i + 1) (length xs)
found_after total xs i x rising at k d low high = sym (total.congr (get_or xs i d) x (get_or xs k d) (at d)) ∙ rising i k d (omega (arith, low)) high

pub found_not_below : {K : Type 0} {cmp : K → K → Ordering} (total : IsTotalOrder cmp) (xs : List K) (i : ℕ) (x : K) → AreRising cmp xs → HoldsAt (λ y. cmp y x ≡ Equal) xs i → AllWithin (λ y. cmp y x ≢ Less) xs i (length xs)
found_not_below {cmp = cmp} total xs i x rising at k d low high =
    let cases : (i < k) ⊎ (k ≡ i) = grind arith in
    elim cases [
      | inl less ↦ less_back total x (get_or xs k d) (found_after total xs i x rising at k d (omega (arith, less)) high)
      | inr same ↦ equal_not_less (cmp (get_or xs k d) x) (ap (λ (j : ℕ). cmp (get_or xs j d) x) same ∙ at d)
    ]

pub found_not_above : {K : Type 0} {cmp : K → K → Ordering} (total : IsTotalOrder cmp) (xs : List K) (i : ℕ) (x : K) → AreRising cmp xs → i < length xs → HoldsAt (λ y. cmp y x ≡ Equal) xs i → AllWithin (λ y. cmp x y ≢ Less) xs 0 (i + 1)
found_not_above {cmp = cmp} total xs i x rising within at k d low high =
    let cases : (k < i) ⊎ (k ≡ i) = grind arith in
    elim cases [
      | inl less ↦ less_back total (get_or xs k d) x (found_before total xs i x rising within at k d low less)
      | inr same ↦ equal_not_less (cmp x (get_or xs k d)) (tied_back total (get_or xs k d) x (ap (λ (j : ℕ). cmp (get_or xs j d) x) same ∙ at d))
    ]

-- ---- the neighbours

pub last_before : {K : Type 0} (cmp : K → K → Ordering) (xs : List K) (n : ℕ) (x z : K) → AreRising cmp xs → n ≢ 0 → n ≤ length xs → z ≡ get_or xs (n - 1) z → AllWithin (λ y. cmp y x ≡ Less) xs 0 n → AllWithin (λ y. cmp y x ≢ Less) xs n (length xs) → IsLastBefore cmp xs x (Some z)
last_before cmp xs n x z rising some within at before rest =
    let inside : n - 1 < n = grind (arith, some) in
    let same : (d : _) → get_or xs (n - 1) d ≡ z = λ d. get_or_default xs (n - 1) d z (omega (arith, inside, within)) ∙ sym at in (
      (n - 1, omega (arith, inside, within), sym at),
      ap (λ y. cmp y x) at ∙ before (n - 1) z (omega arith) inside,
      λ k d lt less.
          let cases : (k < n - 1) ⊎ ((k ≡ n - 1) ⊎ (n ≤ k)) = grind (arith, some) in
          elim cases [
            | inl low ↦ inr (ap (cmp (get_or xs k d)) (sym (same d)) ∙ rising k (n - 1) d low (omega (arith, inside, within)))
            | inr others ↦ elim others [
              | inl here ↦ inl (ap (λ (j : ℕ). get_or xs j d) here ∙ same d)
              | inr high ↦ absurd (rest k d high lt less)
            ]
          ],
    )

pub first_after : {K : Type 0} (cmp : K → K → Ordering) (xs : List K) (n : ℕ) (x z : K) → AreRising cmp xs → n < length xs → z ≡ get_or xs n z → AllWithin (λ y. cmp x y ≢ Less) xs 0 n → AllWithin (λ y. cmp x y ≡ Less) xs n (length xs) → IsFirstAfter cmp xs x (Some z)
first_after cmp xs n x z rising within at before rest =
    let same : (d : _) → get_or xs n d ≡ z = λ d. get_or_default xs n d z within ∙ sym at in (
      (n, within, sym at),
      ap (λ y. cmp x y) at ∙ rest n z (omega arith) within,
      λ k d lt less.
          let cases : (n < k) ⊎ ((k ≡ n) ⊎ (k < n)) = grind arith in
          elim cases [
            | inl high ↦ inr (ap (λ y. cmp y (get_or xs k d)) (sym (same d)) ∙ rising n k d high lt)
            | inr others ↦ elim others [
              | inl here ↦ inl (ap (λ (j : ℕ). get_or xs j d) here ∙ same d)
              | inr low ↦ absurd (before k d (omega arith) low less)
            ]
          ],
    )

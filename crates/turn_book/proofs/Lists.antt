-- Items of lists.
use Rattle.std.proofs.Common.{◌≡◌, ℕ, zero, suc, ◌+◌, ◌<◌, List, [], ◌∷◌, ◌++◌, Some, length, slice_get, refl, sym, ap, arith, inl, inr, ⊎_elim, ◌⊎◌}

pub get-below : {X : Type 0} (xs : List X) (i : ℕ) (x : X) → slice_get xs i ≡ Some x → i < length xs
get-below [] i x is = absurd (cc is)
get-below (y ∷ xs) zero x is = omega arith
get-below (y ∷ xs) (suc i) x is = let r = get-below xs i x is in omega (arith, r)

pub get-left : {X : Type 0} (xs ys : List X) (i : ℕ) (x : X) → slice_get xs i ≡ Some x → slice_get (xs ++ ys) i ≡ Some x
get-left [] ys i x is = absurd (cc is)
get-left (y ∷ xs) ys zero x is = is
get-left (y ∷ xs) ys (suc i) x is = get-left xs ys i x is

-- an item of a list with one more is one of the list, or the last
pub get-snoc : {X : Type 0} (xs : List X) (y : X) (i : ℕ) (x : X) → slice_get (xs ++ y ∷ []) i ≡ Some x → (slice_get xs i ≡ Some x) ⊎ ((i ≡ length xs) × (x ≡ y))
get-snoc [] y zero x is = inr (refl, (let e : y ≡ x = cc is in sym e))
get-snoc [] y (suc i) x is = absurd (cc is)
get-snoc (z ∷ xs) y zero x is = inl is
get-snoc (z ∷ xs) y (suc i) x is =
    ⊎_elim
    (λ (at : slice_get xs i ≡ Some x). inl at)
    (λ (last : (i ≡ length xs) × (x ≡ y)). inr (ap suc last.0, last.1))
    (get-snoc xs y i x is)

pub get-last : {X : Type 0} (xs : List X) (y : X) → slice_get (xs ++ y ∷ []) (length xs) ≡ Some y
get-last [] y = refl
get-last (x ∷ xs) y = get-last xs y

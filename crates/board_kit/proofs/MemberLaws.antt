-- What is among the items of numbers, and that parts of the list of all items are in order.
use Rattle.std.proofs.Common.{◌≡◌, ℕ, zero, suc, ◌<◌, ◌⊎◌, inl, inr, List, [], ◌∷◌, ◌++◌, sym, subst, arith}
use Rattle.std.specs.Prelude.{map}
use Rattle.std.specs.List.{AllPairs, Contains, flat_map}
use Rattle.std.proofs.lemmas.List.{map-append, length-append, get_or_append_left}
use Rattle.std.proofs.lemmas.List.Concat.{flat_map-append}
use Rattle.std.proofs.lemmas.List.Elements.{Contains-append_left, Contains-append_right, Contains-append_cases}
pub use Rattle.kept_set.proofs.ListLaws.{none_in}
use Rattle.kept_set.proofs.ListLaws.{contains-cons, contains-first, pairs-rest}
use Rattle.desk_data.specs.Situation.{Situation}
use Rattle.desk_rules.specs.Numbers.{numbers}
use Rattle.desk_rules.specs.Order.{ComesBefore}
use Rattle.desk_rules.specs.Least.{rotation_items, slot_items, pax_items, items}
use Rattle.desk_rules.proofs.OrderLaws.{items-ascend}

pub in_numbers : {X : Type 0} (f : ℕ → X) (n k : ℕ) → k < n → Contains (map f (numbers n)) (f k)
in_numbers f zero k lt = absurd (omega arith)
in_numbers f (suc n) k lt =
    let cases : (k < n) ⊎ (k ≡ n) = grind arith in
    subst (λ xs. Contains xs (f k)) (sym (map-append f (numbers n) (n ∷ []))) (elim cases [
      | inl less ↦ Contains-append_left (map f (numbers n)) (f n ∷ []) (f k) (in_numbers f n k less)
      | inr same ↦ Contains-append_right (map f (numbers n)) (f n ∷ []) (f k) (subst (λ (j : ℕ). Contains (f n ∷ []) (f j)) (sym same) (contains-first (f n) []))
    ])

pub of_numbers : {X : Type 0} (f : ℕ → X) (n : ℕ) (y : X) → Contains (map f (numbers n)) y → (k : ℕ) × (k < n) × (y ≡ f k)
of_numbers f zero y is = absurd (none_in y is)
of_numbers f (suc n) y is =
    elim (Contains-append_cases (map f (numbers n)) (f n ∷ []) y (subst (λ xs. Contains xs y) (map-append f (numbers n) (n ∷ [])) is)) [
      | inl before ↦ let at = of_numbers f n y before in (at.0, omega (arith, at.1), at.2)
      | inr last ↦ elim (contains-cons (f n) y [] last) [
        | inl same ↦ (n, omega arith, same)
        | inr none ↦ absurd (none_in y none)
      ]
    ]

pub in_lists : {X : Type 0} (f : ℕ → List X) (n k : ℕ) (y : X) → k < n → Contains (f k) y → Contains (flat_map f (numbers n)) y
in_lists f zero k y lt is = absurd (omega arith)
in_lists f (suc n) k y lt is =
    let cases : (k < n) ⊎ (k ≡ n) = grind arith in
    subst (λ xs. Contains xs y) (sym (flat_map-append f (numbers n) (n ∷ []))) (elim cases [
      | inl less ↦ Contains-append_left (flat_map f (numbers n)) (f n ++ []) y (in_lists f n k y less is)
      | inr same ↦ Contains-append_right (flat_map f (numbers n)) (f n ++ []) y (Contains-append_left (f n) [] y (subst (λ (j : ℕ). Contains (f j) y) same is))
    ])

pub of_lists : {X : Type 0} (f : ℕ → List X) (n : ℕ) (y : X) → Contains (flat_map f (numbers n)) y → (k : ℕ) × (k < n) × Contains (f k) y
of_lists f zero y is = absurd (none_in y is)
of_lists f (suc n) y is =
    elim (Contains-append_cases (flat_map f (numbers n)) (f n ++ []) y (subst (λ xs. Contains xs y) (flat_map-append f (numbers n) (n ∷ [])) is)) [
      | inl before ↦ let at = of_lists f n y before in (at.0, omega (arith, at.1), at.2)
      | inr last ↦ elim (Contains-append_cases (f n) [] y last) [
        | inl here ↦ (n, omega arith, here)
        | inr none ↦ absurd (none_in y none)
      ]
    ]

-- parts of a list in order
pub pairs_right : {X : Type 0} (R : X → X → Type 0) (xs ys : List X) → AllPairs R (xs ++ ys) → AllPairs R ys
pairs_right R [] ys pairs = pairs
pairs_right R (x ∷ xs) ys pairs = pairs_right R xs ys (pairs-rest R x (xs ++ ys) pairs)

pub pairs_left : {X : Type 0} (R : X → X → Type 0) (xs ys : List X) → AllPairs R (xs ++ ys) → AllPairs R xs
pairs_left R xs ys pairs i j d lt within =
    rw (sym (get_or_append_left xs ys d i (omega arith)), sym (get_or_append_left xs ys d j within)) (pairs i j d lt (omega (arith, length-append xs ys)))

pub rotations_ascend : (I : Situation) → AllPairs ComesBefore (rotation_items I)
unfolding items
rotations_ascend I = pairs_left ComesBefore (rotation_items I) (slot_items I) (pairs_left ComesBefore (rotation_items I ++ slot_items I) (pax_items I) (items-ascend I))

pub slots_ascend : (I : Situation) → AllPairs ComesBefore (slot_items I)
unfolding items
slots_ascend I = pairs_right ComesBefore (rotation_items I) (slot_items I) (pairs_left ComesBefore (rotation_items I ++ slot_items I) (pax_items I) (items-ascend I))

pub passengers_ascend : (I : Situation) → AllPairs ComesBefore (pax_items I)
unfolding items
passengers_ascend I = pairs_right ComesBefore (rotation_items I ++ slot_items I) (pax_items I) (items-ascend I)

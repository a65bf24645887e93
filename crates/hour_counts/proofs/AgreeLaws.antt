-- Two lists of legs in order that have the same legs are one list.
use Rattle.std.proofs.Common.{◌≡◌, ℕ, inl, inr, List, [], ◌∷◌, refl, sym, ap, subst, ◌∙◌, arith}
use Rattle.std.specs.List.{All, AllPairs, Contains}
use Rattle.std.proofs.lemmas.List.Elements.{All-contains}
use Rattle.desk_data.specs.PlanRows.{PlanRows}
use Rattle.desk_rules.specs.Words.{Precedes}
use Rattle.desk_data.proofs.PathOrder.{pairs_head, pairs_tail}
use Rattle.desk_model.proofs.RotationOrder.{precedes-trans, precedes-itself, Contains-cases, Contains-head, Contains-tail}

no_element : (x : ℕ) → Contains [] x → ⊥
no_element x has = let lt = has.1 in omega (arith, lt)

-- the first legs are the same
same_head : (P : PlanRows) (x y : ℕ) (xs ys : List ℕ) → All (Precedes P x) xs → All (Precedes P y) ys → Contains (y ∷ ys) x → Contains (x ∷ xs) y → x ≡ y
same_head P x y xs ys a b to back =
    elim (Contains-cases y x ys to) [
      | inl same ↦ sym same
      | inr after_y ↦ elim (Contains-cases x y xs back) [
        | inl same ↦ same
        | inr after_x ↦ absurd (precedes-itself P x (precedes-trans P x y x (All-contains (Precedes P x) xs y a after_x) (All-contains (Precedes P y) ys x b after_y)))
      ]
    ]

-- so are the legs after them
after_head : (P : PlanRows) (x y z : ℕ) (xs ys : List ℕ) → x ≡ y → All (Precedes P x) xs → Contains (y ∷ ys) z → Contains xs z → Contains ys z
after_head P x y z xs ys same a to has =
    elim (Contains-cases y z ys to) [
      | inl first ↦ absurd (precedes-itself P x (subst (Precedes P x) (sym (same ∙ first)) (All-contains (Precedes P x) xs z a has)))
      | inr later ↦ later
    ]

pub same_ordered : (P : PlanRows) (xs ys : List ℕ) → AllPairs (Precedes P) xs → AllPairs (Precedes P) ys → ((z : ℕ) → Contains xs z → Contains ys z) → ((z : ℕ) → Contains ys z → Contains xs z) → xs ≡ ys
same_ordered P [] [] a b to back = refl
same_ordered P [] (y ∷ ys) a b to back = absurd (no_element y (back y (Contains-head y ys)))
same_ordered P (x ∷ xs) [] a b to back = absurd (no_element x (to x (Contains-head x xs)))
same_ordered P (x ∷ xs) (y ∷ ys) a b to back =
    let first_x = pairs_head (Precedes P) x xs a in
    let first_y = pairs_head (Precedes P) y ys b in
    let same : x ≡ y = same_head P x y xs ys first_x first_y (to x (Contains-head x xs)) (back y (Contains-head y ys)) in
    let rest : xs ≡ ys = same_ordered P xs ys (pairs_tail (Precedes P) x xs a) (pairs_tail (Precedes P) y ys b)
    (λ z has. after_head P x y z xs ys same first_x (to z (Contains-tail x z xs has)) has)
    (λ z has. after_head P y x z ys xs (sym same) first_y (back z (Contains-tail y z ys has)) has) in
    ap (λ (k : ℕ). k ∷ xs) same ∙ ap (λ (zs : List ℕ). y ∷ zs) rest

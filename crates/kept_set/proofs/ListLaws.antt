-- Members of lists, and two lists in one strict order that have the same members: they are one list.
use Rattle.std.proofs.Common.{◌≡◌, zero, suc, ◌⊎◌, inl, inr, List, [], ◌∷◌, refl, sym, ap, subst, ◌∙◌, arith}
use Rattle.std.specs.List.{AllPairs, Contains}

-- a member of x ∷ xs is x or a member of xs
pub contains-cons : {X : Type 0} (x y : X) (xs : List X) → Contains (x ∷ xs) y → (y ≡ x) ⊎ Contains xs y
contains-cons x y xs (zero, lt, is) = inl (sym is)
contains-cons x y xs (suc k, lt, is) = inr (k, omega arith, is)

pub contains-first : {X : Type 0} (x : X) (xs : List X) → Contains (x ∷ xs) x
contains-first x xs = (zero, omega arith, refl)

pub contains-rest : {X : Type 0} (x y : X) (xs : List X) → Contains xs y → Contains (x ∷ xs) y
contains-rest x y xs (k, lt, is) = (suc k, omega arith, is)

-- each after the first stands in the relation to it
pub pairs-first : {X : Type 0} (R : X → X → Type 0) (x y : X) (xs : List X) → AllPairs R (x ∷ xs) → Contains xs y → R x y
pairs-first R x y xs pairs (k, lt, is) = subst (R x) is (pairs zero (suc k) y (omega arith) (omega arith))

pub pairs-rest : {X : Type 0} (R : X → X → Type 0) (x : X) (xs : List X) → AllPairs R (x ∷ xs) → AllPairs R xs
pairs-rest R x xs pairs i j d lt within = pairs (suc i) (suc j) d (omega arith) (omega arith)

pub none_in : {X : Type 0} (y : X) → Contains [] y → ⊥
none_in y (k, lt, is) = omega arith

-- ---- two lists in one order

-- the order is strict
pub record IsStrict {X : Type 0} (R : X → X → Type 0) : Type 0 where
  pub trans : (x y z : X) → R x y → R y z → R x z
  pub itself : (x : X) → R x x → ⊥

-- the first members are the same
same_head : {X : Type 0} (R : X → X → Type 0) (x y : X) (xs ys : List X) → IsStrict R → AllPairs R (x ∷ xs) → AllPairs R (y ∷ ys) → Contains (y ∷ ys) x → Contains (x ∷ xs) y → x ≡ y
same_head R x y xs ys strict a b to back =
    elim (contains-cons y x ys to) [
      | inl same ↦ same
      | inr after_y ↦ elim (contains-cons x y xs back) [
        | inl same ↦ sym same
        | inr after_x ↦ absurd (strict.itself x (strict.trans x y x (pairs-first R x y xs a after_x) (pairs-first R y x ys b after_y)))
      ]
    ]

-- so are those after them
after_head : {X : Type 0} (R : X → X → Type 0) (x y z : X) (xs ys : List X) → IsStrict R → x ≡ y → AllPairs R (x ∷ xs) → Contains (y ∷ ys) z → Contains xs z → Contains ys z
after_head R x y z xs ys strict same a to has =
    elim (contains-cons y z ys to) [
      | inl first ↦ absurd (strict.itself x (subst (R x) (first ∙ sym same) (pairs-first R x z xs a has)))
      | inr after ↦ after
    ]

pub same_ordered : {X : Type 0} (R : X → X → Type 0) (xs ys : List X) → IsStrict R → AllPairs R xs → AllPairs R ys → ((z : X) → Contains xs z → Contains ys z) → ((z : X) → Contains ys z → Contains xs z) → xs ≡ ys
same_ordered R [] [] strict a b to back = refl
same_ordered R [] (y ∷ ys) strict a b to back = absurd (none_in y (back y (contains-first y ys)))
same_ordered R (x ∷ xs) [] strict a b to back = absurd (none_in x (to x (contains-first x xs)))
same_ordered R (x ∷ xs) (y ∷ ys) strict a b to back =
    let same : x ≡ y = same_head R x y xs ys strict a b (to x (contains-first x xs)) (back y (contains-first y ys)) in
    let rest : xs ≡ ys = same_ordered R xs ys strict (pairs-rest R x xs a) (pairs-rest R y ys b)
    (λ z has. after_head R x y z xs ys strict same a (to z (contains-rest x z xs has)) has)
    (λ z has. after_head R y x z ys xs strict (sym same) b (back z (contains-rest y z ys has)) has) in
    ap (λ k. k ∷ xs) same ∙ ap (λ zs. y ∷ zs) rest

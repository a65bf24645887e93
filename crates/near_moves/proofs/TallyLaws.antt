-- Lists of legs with the same members, and how many of them have an airport.
use Rattle.std.proofs.Common.{◌≡◌, ℕ, ◌+◌, ◌⊎◌, inl, inr, List, [], ◌∷◌, ◌++◌, refl, sym, ap, subst, ◌∙◌, arith}
use Rattle.std.specs.List.{AllPairs, Contains}
use Rattle.std.proofs.lemmas.List.Elements.{All-contains, Contains-append_left, Contains-append_right, Contains-append_cases}
use Rattle.desk_data.proofs.PathOrder.{pairs_head, pairs_tail}
use Rattle.near_moves.proofs.ListLaws.{contains_cases, contains_head, contains_tail, contains_none}
use Rattle.near_moves.specs.Chains.{is_same, tally}

pub tally-append : (f : ℕ → ℕ) (a : ℕ) (xs ys : List ℕ) → tally f a (xs ++ ys) ≡ tally f a xs + tally f a ys
tally-append f a [] ys = omega arith
tally-append f a (x ∷ xs) ys = let e = tally-append f a xs ys in omega (arith, e)

pub tally-middle : (f : ℕ → ℕ) (a x : ℕ) (xs ys : List ℕ) → tally f a (xs ++ x ∷ ys) ≡ is_same (f x) a + tally f a (xs ++ ys)
tally-middle f a x xs ys =
    let e = tally-append f a xs (x ∷ ys) in
    let d = tally-append f a xs ys in
    omega (arith, e, d)

-- no two places of a list hold the same
abbrev pub AreApart : List ℕ → Type 0
AreApart [] = Unit {0}
AreApart (x ∷ xs) = (Contains xs x → ⊥) × AreApart xs

pub apart-ordered : (R : ℕ → ℕ → Type 0) → ((x : ℕ) → R x x → ⊥) → (xs : List ℕ) → AllPairs R xs → AreApart xs
apart-ordered R never [] pairs = tt
apart-ordered R never (x ∷ xs) pairs =
    (λ has. never x (All-contains (R x) xs x (pairs_head R x xs pairs) has), apart-ordered R never xs (pairs_tail R x xs pairs))

-- an element in its place
pub record Place (xs : List ℕ) (x : ℕ) : Type 0 where
  pub before : List ℕ
  pub tail : List ℕ
  pub is : xs ≡ before ++ x ∷ tail

pub place : (x : ℕ) (xs : List ℕ) → Contains xs x → Place xs x
place x [] has = absurd (contains_none x has)
place x (y ∷ xs) has =
    elim (contains_cases y x xs has) [
      | inl same ↦ record { before = []; tail = xs; is = ap (λ (z : ℕ). z ∷ xs) same }
      | inr more ↦
          let at = place x xs more in
          record { before = y ∷ at.before; tail = at.tail; is = ap (λ (zs : List ℕ). y ∷ zs) at.is }
    ]

-- a list without one element
pub in-rest : (x z : ℕ) (xs ys : List ℕ) → Contains (xs ++ x ∷ ys) z → (x ≡ z) ⊎ Contains (xs ++ ys) z
in-rest x z xs ys has =
    elim (Contains-append_cases xs (x ∷ ys) z has) [
      | inl first ↦ inr (Contains-append_left xs ys z first)
      | inr second ↦ elim (contains_cases x z ys second) [
        | inl same ↦ inl same
        | inr more ↦ inr (Contains-append_right xs ys z more)
      ]
    ]

pub in-whole : (x z : ℕ) (xs ys : List ℕ) → Contains (xs ++ ys) z → Contains (xs ++ x ∷ ys) z
in-whole x z xs ys has =
    elim (Contains-append_cases xs ys z has) [
      | inl first ↦ Contains-append_left xs (x ∷ ys) z first
      | inr second ↦ Contains-append_right xs (x ∷ ys) z (contains_tail x z ys second)
    ]

pub apart-rest : (x : ℕ) (xs ys : List ℕ) → AreApart (xs ++ x ∷ ys) → (Contains (xs ++ ys) x → ⊥) × AreApart (xs ++ ys)
apart-rest x [] ys apart = apart
apart-rest x (z ∷ xs) ys apart =
    let more = apart-rest x xs ys apart.1 in (
      λ has. elim (contains_cases z x (xs ++ ys) has) [
        | inl same ↦ apart.0 (subst (Contains (xs ++ x ∷ ys)) (sym same) (Contains-append_right xs (x ∷ ys) x (contains_head x ys)))
        | inr tail ↦ more.0 tail
      ],
      ((λ has. apart.0 (in-whole x z xs ys has)), more.1),
    )

abbrev pub AreAmong : List ℕ → List ℕ → Type 0
AreAmong xs ys = (z : ℕ) → Contains xs z → Contains ys z

-- lists with the same members, each once, have as many of each kind
pub tally-same : (f : ℕ → ℕ) (a : ℕ) (xs ys : List ℕ) → AreApart xs → AreApart ys → AreAmong xs ys → AreAmong ys xs → tally f a xs ≡ tally f a ys
tally-same f a [] [] apart other to back = refl
tally-same f a [] (y ∷ ys) apart other to back = absurd (contains_none y (back y (contains_head y ys)))
tally-same f a (x ∷ xs) ys apart other to back =
    let at = place x ys (to x (contains_head x xs)) in
    let rest = at.before ++ at.tail in
    let without = apart-rest x at.before at.tail (subst AreApart at.is other) in
    let more : tally f a xs ≡ tally f a rest =
    tally-same f a xs rest apart.1 without.1
    (λ z has. elim (in-rest x z at.before at.tail (subst (λ (zs : List ℕ). Contains zs z) at.is (to z (contains_tail x z xs has)))) [
      | inl same ↦ absurd (apart.0 (subst (Contains xs) (sym same) has))
      | inr there ↦ there
    ])
    (λ z has. elim (contains_cases x z xs (back z (subst (λ (zs : List ℕ). Contains zs z) (sym at.is) (in-whole x z at.before at.tail has)))) [
      | inl same ↦ absurd (without.0 (subst (Contains rest) (sym same) has))
      | inr there ↦ there
    ]) in
    ap (λ (n : ℕ). is_same (f x) a + n) more ∙ sym (ap (tally f a) at.is ∙ tally-middle f a x at.before at.tail)

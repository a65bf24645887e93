-- The first, the last and the next of a list.
use Rattle.std.proofs.Common.{◌≡◌, ◌⊎◌, inl, inr, List, [], ◌∷◌, ◌++◌, refl, ap}
use Rattle.crew_rules.specs.Words.{IsFirst, IsLast, IsNext}

-- ---- the first

pub first_of : {X : Type 0} (x : X) (xs : List X) → IsFirst (x ∷ xs) x
first_of x xs = record { after = xs; is = refl }

first_equal : {X : Type 0} (y x : X) (ys after : List X) → y ∷ ys ≡ x ∷ after → y ≡ x
first_equal y x ys after is = cc

pub first_is : {X : Type 0} (y x : X) (ys : List X) → IsFirst (y ∷ ys) x → y ≡ x
first_is y x ys f = first_equal y x ys f.after f.is

first_absurd : {X : Type 0} (x : X) (after : List X) → [] ≡ x ∷ after → ⊥
first_absurd x after is = absurd cc

pub first_none : {X : Type 0} (x : X) → IsFirst [] x → ⊥
first_none x f = first_absurd x f.after f.is

-- ---- the next

next_absurd : {X : Type 0} (x y : X) (before after : List X) → [] ≡ before ++ x ∷ y ∷ after → ⊥
next_absurd x y [] after is = absurd cc
next_absurd x y (b ∷ before) after is = absurd cc

pub next_none : {X : Type 0} (x y : X) → IsNext [] x y → ⊥
next_none x y n = next_absurd x y n.before n.after n.is

next_in : {X : Type 0} (z x y : X) (zs before after : List X) → z ∷ zs ≡ before ++ x ∷ y ∷ after → ((z ≡ x) × IsFirst zs y) ⊎ IsNext zs x y
next_in z x y zs [] after is =
    let same : z ≡ x = cc in
    let rest : zs ≡ y ∷ after = cc in
    inl (same, record { after = after; is = rest })
next_in z x y zs (b ∷ before) after is =
    let rest : zs ≡ before ++ x ∷ y ∷ after = cc in
    inr (record { before = before; after = after; is = rest })

-- the next after x: x is the first, or the two stand later
pub next_cases : {X : Type 0} (z x y : X) (zs : List X) → IsNext (z ∷ zs) x y → ((z ≡ x) × IsFirst zs y) ⊎ IsNext zs x y
next_cases z x y zs n = next_in z x y zs n.before n.after n.is

pub next_head : {X : Type 0} (z y : X) (zs : List X) → IsFirst zs y → IsNext (z ∷ zs) z y
next_head {X} z y zs f = record { before = []; after = f.after; is = ap (λ (ws : List X). z ∷ ws) f.is }

pub next_tail : {X : Type 0} (z x y : X) (zs : List X) → IsNext zs x y → IsNext (z ∷ zs) x y
next_tail {X} z x y zs n = record { before = z ∷ n.before; after = n.after; is = ap (λ (ws : List X). z ∷ ws) n.is }

pub next_alone : {X : Type 0} (z x y : X) → IsNext (z ∷ []) x y → ⊥
next_alone z x y n =
    elim (next_cases z x y [] n) [
      | inl both ↦ first_none y both.1
      | inr later ↦ next_none x y later
    ]

-- ---- the last

last_absurd : {X : Type 0} (x : X) (before : List X) → [] ≡ before ++ x ∷ [] → ⊥
last_absurd x [] is = absurd cc
last_absurd x (b ∷ before) is = absurd cc

pub last_none : {X : Type 0} (x : X) → IsLast [] x → ⊥
last_none x l = last_absurd x l.before l.is

last_in : {X : Type 0} (z y x : X) (ys before : List X) → z ∷ y ∷ ys ≡ before ++ x ∷ [] → IsLast (y ∷ ys) x
last_in z y x ys [] is = absurd cc
last_in z y x ys (b ∷ before) is =
    let rest : y ∷ ys ≡ before ++ x ∷ [] = cc in
    record { before = before; is = rest }

-- the last of two or more is that of those after the first
pub last_tail : {X : Type 0} (z y x : X) (ys : List X) → IsLast (z ∷ y ∷ ys) x → IsLast (y ∷ ys) x
last_tail z y x ys l = last_in z y x ys l.before l.is

pub last_before : {X : Type 0} (z x : X) (ys : List X) → IsLast ys x → IsLast (z ∷ ys) x
last_before {X} z x ys l = record { before = z ∷ l.before; is = ap (λ (ws : List X). z ∷ ws) l.is }

alone_in : {X : Type 0} (z x : X) (before : List X) → z ∷ [] ≡ before ++ x ∷ [] → z ≡ x
alone_in z x [] is = cc
alone_in z x (b ∷ []) is = absurd cc
alone_in z x (b ∷ c ∷ before) is = absurd cc

pub last_alone : {X : Type 0} (z x : X) → IsLast (z ∷ []) x → z ≡ x
last_alone z x l = alone_in z x l.before l.is

pub alone_last : {X : Type 0} (z : X) → IsLast (z ∷ []) z
alone_last z = record { before = []; is = refl }

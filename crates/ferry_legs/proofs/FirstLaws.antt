-- The first of some moments that passes a test, found by any way of trying.
use Rattle.std.proofs.Common.{◌≡◌, ℕ, ◌+◌, ◌-◌, ◌<◌, inl, inr, Bool, true, false, ◌&&◌, cond, ltb, List, [], ◌∷◌, map, refl, sym, ap, subst, ◌∙◌, arith, min}
use Rattle.std.specs.Prelude.{Option, Some, None, find, filter}
use Rattle.std.specs.Option.{option_map}
use Rattle.std.proofs.lemmas.Bool.{cases_lt, and_left, and_right, and_from, lt-ltb, le-ltb}
use Rattle.desk_units.specs.declared.numbers.Minute.{Minute}
use Rattle.desk_rules.specs.Numbers.{numbers}
use Rattle.desk_rules.proofs.FindLaws.{first_of_numbers, numbers_none}
use Rattle.added_legs.specs.Ferried.{minute}
use Rattle.ferry_legs.specs.Departs.{IsFirst}

mapped_if : {X Y : Type 0} (f : X → Y) (b : Bool) (x : X) (o : Option X) → option_map f (cond b (Some x) o) ≡ cond b (Some (f x)) (option_map f o)
mapped_if f true x o = refl
mapped_if f false x o = refl

find_map : {X Y : Type 0} (p : Y → Bool) (f : X → Y) (xs : List X) → find p (map f xs) ≡ option_map f (find (λ x. p (f x)) xs)
find_map p f [] = refl
find_map {X} {Y} p f (x ∷ xs) =
    ap (λ (o : Option Y). cond (p (f x)) (Some (f x)) o) (find_map p f xs)
    ∙ sym (mapped_if f (p (f x)) x (find (λ x. p (f x)) xs))

kept_if : {X : Type 0} (p : X → Bool) (b : Bool) (x : X) (xs : List X) (o : Option X) → find p xs ≡ o → find p (cond b (x ∷ xs) xs) ≡ cond (b && p x) (Some x) o
kept_if {X} p true x xs o is = ap (λ (o : Option X). cond (p x) (Some x) o) is
kept_if p false x xs o is = is

find_filter : {X : Type 0} (p q : X → Bool) (xs : List X) → find p (filter q xs) ≡ find (λ x. q x && p x) xs
find_filter p q [] = refl
find_filter p q (x ∷ xs) = kept_if p (q x) x (filter q xs) (find (λ x. q x && p x) xs) (find_filter p q xs)

-- the moments from `low` on, n of them, before `to`
abbrev pub moments_from : ℕ → ℕ → ℕ → List Minute
moments_from low n to = filter (λ at. ltb at.0 to) (map (λ k. minute (low + k)) (numbers n))

pub first_found : (test : Minute → Bool) (low n to : ℕ) (found : Option Minute) → IsFirst (λ s. test (minute s)) low (min (low + n) to) found → find test (moments_from low n to) ≡ found
first_found test low n to None none =
    find_filter test (λ at. ltb at.0 to) (map (λ k. minute (low + k)) (numbers n))
    ∙ numbers_none (λ at. ltb at.0 to && test at) (λ k. minute (low + k)) n (λ k lt. elim (cases_lt (low + k) to) [
      | inl before ↦ and_right (ltb (low + k) to) (test (minute (low + k))) (none (low + k) (omega arith) (omega (arith, before, lt)))
      | inr past ↦ and_left (ltb (low + k) to) (test (minute (low + k))) (le-ltb (low + k) to past)
    ])
first_found test low n to (Some at) h =
    let k : ℕ = at.0 - low in
    let is : low + k ≡ at.0 = (let from = h.from in omega (arith, from)) in
    let few : k < n = (let from = h.from in let within = h.within in omega (arith, from, within)) in
    let before : low + k < to = (let within = h.within in omega (arith, within, is)) in
    let holds : test (minute (low + k)) ≡ true = subst (λ (s : ℕ). test (minute s) ≡ true) (sym is) h.holds in
    find_filter test (λ at. ltb at.0 to) (map (λ k. minute (low + k)) (numbers n))
    ∙ first_of_numbers (λ at. ltb at.0 to && test at) (λ k. minute (low + k)) n k few
    (and_from (ltb (low + k) to) (test (minute (low + k))) (lt-ltb (low + k) to before) holds)
    (λ j less. and_right (ltb (low + j) to) (test (minute (low + j))) (h.first (low + j) (omega arith) (omega (arith, less, is))))
    ∙ ap (λ (s : ℕ). Some (minute s)) is

-- and the same of what is said of each of them
pub said_found : {Y : Type 0} (test : Y → Bool) (said : Minute → Y) (low n to : ℕ) (found : Option Minute) → IsFirst (λ s. test (said (minute s))) low (min (low + n) to) found → find test (map said (moments_from low n to)) ≡ option_map said found
said_found test said low n to found first =
    find_map test said (moments_from low n to)
    ∙ ap (option_map said) (first_found (λ at. test (said at)) low n to found first)

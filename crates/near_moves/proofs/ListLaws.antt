-- What lists contain, lists that are filtered, mapped and joined, what is contained once, and lists in order that have the
-- same elements.
use Rattle.std.proofs.Common.{◌≡◌, ℕ, zero, suc, ◌+◌, ◌<◌, ◌⊎◌, inl, inr, Bool, true, false, List, [], ◌∷◌, ◌++◌, length, get_or, map, drop, refl, sym, ap, subst, ◌∙◌, arith, add-one}
use Rattle.std.specs.Prelude.{filter, Some, None}
use Rattle.std.specs.Option.{ForSome}
use Rattle.std.specs.List.{All, AllPairs, Contains, flat_map, list_any}
use Rattle.std.proofs.Math.Seq.{drop-cons}
use Rattle.std.proofs.lemmas.Bool.{cases_Bool}
use Rattle.std.proofs.lemmas.List.{append-nil, map-append}
use Rattle.std.proofs.lemmas.List.Elements.{All-nil, All-cons, All-head, All-tail, All-append, All-weaker, All-filter, All-contains, All-contains_itself, filter_passes, filter-append, Contains-append_left, Contains-append_right, Contains-append_cases, Contains-get_or, Contains-push}
use Rattle.std.proofs.lemmas.List.Folds.{Any-from_list_any, list_any_at}
use Rattle.std.proofs.lemmas.List.Kept.{AllPairs-cons, AllPairs-filter}
use Rattle.desk_rules.specs.Numbers.{numbers}
use Rattle.desk_rules.proofs.HourLaws.{length-numbers}
use Rattle.desk_data.proofs.PathOrder.{pairs_head, pairs_tail, pairs_nil, pairs_append}
use Rattle.desk_model.proofs.GroupPlans.{numbers-at}

-- ---- what lists contain

pub contains_cases : {X : Type 0} (y x : X) (xs : List X) → Contains (y ∷ xs) x → (y ≡ x) ⊎ Contains xs x
contains_cases y x xs (zero, within, is) = inl is
contains_cases y x xs (suc k, within, is) = inr (k, (let lt : k < length xs = omega arith in lt), is)

pub contains_head : {X : Type 0} (x : X) (xs : List X) → Contains (x ∷ xs) x
contains_head x xs = (0, (let lt : 0 < length (x ∷ xs) = omega arith in lt), refl)

pub contains_tail : {X : Type 0} (y x : X) (xs : List X) → Contains xs x → Contains (y ∷ xs) x
contains_tail y x xs (k, within, is) = (suc k, (let lt : suc k < length (y ∷ xs) = omega arith in lt), is)

pub contains_none : {X : Type 0} (x : X) → Contains [] x → ⊥
contains_none x has = let lt = has.1 in omega (arith, lt)

pub contains_filter : {X : Type 0} (p : X → Bool) (xs : List X) (x : X) → Contains xs x → p x ≡ true → Contains (filter p xs) x
contains_filter p [] x has passes = absurd (contains_none x has)
contains_filter p (y ∷ xs) x has passes =
    elim (contains_cases y x xs has) [
      | inl same ↦
          let here : p y ≡ true = ap p same ∙ passes in
          rw here (subst (Contains (y ∷ filter p xs)) same (contains_head y (filter p xs)))
      | inr later ↦
          let more = contains_filter p xs x later passes in
          elim (cases_Bool (p y)) [
            | inl front ↦ rw front (contains_tail y x (filter p xs) more)
            | inr fails ↦ rw fails more
          ]
    ]

pub filter_contains : {X : Type 0} (p : X → Bool) (xs : List X) (x : X) → Contains (filter p xs) x → Contains xs x × (p x ≡ true)
filter_contains p xs x has =
    (All-contains (Contains xs) (filter p xs) x (All-filter p (Contains xs) xs (All-contains_itself xs)) has, All-contains (λ y. p y ≡ true) (filter p xs) x (filter_passes p xs) has)

pub contains_map : {X Y : Type 0} (f : X → Y) (xs : List X) (x : X) → Contains xs x → Contains (map f xs) (f x)
contains_map f [] x has = absurd (contains_none x has)
contains_map f (y ∷ xs) x has =
    elim (contains_cases y x xs has) [
      | inl same ↦ subst (λ z. Contains (f y ∷ map f xs) (f z)) same (contains_head (f y) (map f xs))
      | inr later ↦ contains_tail (f y) (f x) (map f xs) (contains_map f xs x later)
    ]

-- an element of a list of which something holds
pub record Source {X : Type 0} (xs : List X) (IsOf : X → Type 0) : Type 0 where
  pub from : X
  pub there : Contains xs from
  pub is : IsOf from

source_after : {X : Type 0} (z : X) (xs : List X) (IsOf : X → Type 0) → Source xs IsOf → Source (z ∷ xs) IsOf
source_after z xs IsOf s = record { from = s.from; there = contains_tail z s.from xs s.there; is = s.is }

pub map_contains : {X Y : Type 0} (f : X → Y) (xs : List X) (y : Y) → Contains (map f xs) y → Source xs (λ x. f x ≡ y)
map_contains f [] y has = absurd (contains_none y has)
map_contains f (x ∷ xs) y has =
    elim (contains_cases (f x) y (map f xs) has) [
      | inl same ↦ record { from = x; there = contains_head x xs; is = same }
      | inr later ↦ source_after x xs (λ z. f z ≡ y) (map_contains f xs y later)
    ]

pub contains_flat_map : {X Y : Type 0} (f : X → List Y) (xs : List X) (x : X) (y : Y) → Contains xs x → Contains (f x) y → Contains (flat_map f xs) y
contains_flat_map f [] x y has own = absurd (contains_none x has)
contains_flat_map f (z ∷ xs) x y has own =
    elim (contains_cases z x xs has) [
      | inl same ↦ Contains-append_left (f z) (flat_map f xs) y (subst (λ w. Contains (f w) y) (sym same) own)
      | inr later ↦ Contains-append_right (f z) (flat_map f xs) y (contains_flat_map f xs x y later own)
    ]

pub flat_map_contains : {X Y : Type 0} (f : X → List Y) (xs : List X) (y : Y) → Contains (flat_map f xs) y → Source xs (λ x. Contains (f x) y)
flat_map_contains f [] y has = absurd (contains_none y has)
flat_map_contains f (x ∷ xs) y has =
    elim (Contains-append_cases (f x) (flat_map f xs) y has) [
      | inl here ↦ record { from = x; there = contains_head x xs; is = here }
      | inr later ↦ source_after x xs (λ z. Contains (f z) y) (flat_map_contains f xs y later)
    ]

pub All_flat_map : {X Y : Type 0} (P : Y → Type 0) (f : X → List Y) (xs : List X) → All (λ x. All P (f x)) xs → All P (flat_map f xs)
All_flat_map P f [] all = All-nil P
All_flat_map P f (x ∷ xs) all = All-append P (f x) (flat_map f xs) (All-head (λ z. All P (f z)) x xs all) (All_flat_map P f xs (All-tail (λ z. All P (f z)) x xs all))

pub All_from_contains : {X : Type 0} (P : X → Type 0) (xs : List X) → ((x : X) → Contains xs x → P x) → All P xs
All_from_contains P xs each = All-weaker (Contains xs) P each xs (All-contains_itself xs)

-- a test that some element passes
pub any_holds : {X : Type 0} (p : X → Bool) (xs : List X) → list_any p xs ≡ true → Source xs (λ x. p x ≡ true)
any_holds p xs h = let some = Any-from_list_any p xs h in record { from = some.1; there = (some.0, some.2, some.3); is = some.4 }

pub any_from : {X : Type 0} (p : X → Bool) (xs : List X) (x : X) → Contains xs x → p x ≡ true → list_any p xs ≡ true
any_from p xs x has passes = list_any_at p xs has.0 x has.1 (ap p has.2 ∙ passes)

-- ---- what holds of an option's value

pub for_none : {X : Type 0} (P : X → Type 0) → ForSome None P
for_none P = λ x e. absurd cc

pub for_some : {X : Type 0} (P : X → Type 0) (x : X) → P x → ForSome (Some x) P
for_some P x holds = λ y e. let same : x ≡ y = cc in subst P same holds

-- ---- the numbers below n

pub numbers_below : (n : ℕ) → All (λ x. x < n) (numbers n)
numbers_below zero = All-nil (λ x. x < 0)
numbers_below (suc n) =
    All-append (λ x. x < suc n) (numbers n) (n ∷ [])
    (All-weaker (λ x. x < n) (λ x. x < suc n) (λ x lt. omega (arith, lt)) (numbers n) (numbers_below n))
    (All-cons (λ x. x < suc n) n [] (omega arith) (All-nil (λ x. x < suc n)))

pub numbers_each : (n x : ℕ) → x < n → Contains (numbers n) x
numbers_each zero x lt = absurd (omega (arith, lt))
numbers_each (suc n) x lt =
    let cases : (x < n) ⊎ (n ≡ x) = grind (arith, lt) in
    elim cases [
      | inl less ↦ Contains-append_left (numbers n) (n ∷ []) x (numbers_each n x less)
      | inr same ↦ subst (Contains (numbers n ++ n ∷ [])) same (Contains-push (numbers n) n)
    ]

pub numbers_within : (n x : ℕ) → Contains (numbers n) x → x < n
numbers_within n x has = All-contains (λ y. y < n) (numbers n) x (numbers_below n) has

pub numbers_ordered : (n : ℕ) → AllPairs (λ x y. x < y) (numbers n)
numbers_ordered zero = pairs_nil (λ x y. x < y)
numbers_ordered (suc n) =
    pairs_append (λ x y. x < y) (numbers n) (n ∷ []) (numbers_ordered n)
    (AllPairs-cons (λ x y. x < y) n [] (All-nil (λ y. n < y)) (pairs_nil (λ x y. x < y)))
    (All-weaker (λ x. x < n) (λ x. All (λ y. x < y) (n ∷ [])) (λ x lt. All-cons (λ y. x < y) n [] lt (All-nil (λ y. x < y))) (numbers n) (numbers_below n))

pub drop_numbers : (n o : ℕ) → o < n → drop o (numbers n) ≡ o ∷ drop (suc o) (numbers n)
drop_numbers n o lt =
    drop-cons (numbers n) o 0 (rw length-numbers lt) ∙ ap (λ (k : ℕ). k ∷ drop (suc o) (numbers n)) (numbers-at n o 0 lt)

pub filter_yes : (p : ℕ → Bool) (n : ℕ) → p n ≡ true → filter p (numbers (n + 1)) ≡ filter p (numbers n) ++ n ∷ []
filter_yes p n holds = rw add-one (filter-append p (numbers n) (n ∷ []) ∙ rw holds refl)

pub filter_no : (p : ℕ → Bool) (n : ℕ) → p n ≡ false → filter p (numbers (n + 1)) ≡ filter p (numbers n)
filter_no p n fails = rw add-one (filter-append p (numbers n) (n ∷ []) ∙ rw fails (append-nil (filter p (numbers n))))

pub filter_all : {X : Type 0} (p : X → Bool) (xs : List X) → All (λ x. p x ≡ true) xs → filter p xs ≡ xs
filter_all p [] all = refl
filter_all {X} p (x ∷ xs) all = rw (All-head (λ (x : X). p x ≡ true) x xs all) (ap (λ (ys : List X). x ∷ ys) (filter_all p xs (All-tail (λ (x : X). p x ≡ true) x xs all)))

pub filter_none : {X : Type 0} (p : X → Bool) (xs : List X) → All (λ x. p x ≡ false) xs → filter p xs ≡ []
filter_none p [] all = refl
filter_none {X} p (x ∷ xs) all = rw (All-head (λ (x : X). p x ≡ false) x xs all) (filter_none p xs (All-tail (λ (x : X). p x ≡ false) x xs all))

pub filter_of_map : {X Y : Type 0} (p : Y → Bool) (f : X → Y) (xs : List X) → filter p (map f xs) ≡ map f (filter (λ x. p (f x)) xs)
filter_of_map p f [] = refl
filter_of_map {X} {Y} p f (x ∷ xs) =
    elim (cases_Bool (p (f x))) [
      | inl front ↦ rw front (ap (λ (ys : List Y). f x ∷ ys) (filter_of_map p f xs))
      | inr fails ↦ rw fails (filter_of_map p f xs)
    ]

pub filter_of_flat_map : {X Y : Type 0} (p : Y → Bool) (f : X → List Y) (xs : List X) → filter p (flat_map f xs) ≡ flat_map (λ x. filter p (f x)) xs
filter_of_flat_map p f [] = refl
filter_of_flat_map {X} {Y} p f (x ∷ xs) = filter-append p (f x) (flat_map f xs) ∙ ap (λ (ys : List Y). filter p (f x) ++ ys) (filter_of_flat_map p f xs)

pub map_of_flat_map : {X Y Z : Type 0} (f : Y → Z) (g : X → List Y) (xs : List X) → map f (flat_map g xs) ≡ flat_map (λ x. map f (g x)) xs
map_of_flat_map f g [] = refl
map_of_flat_map {X} {Y} {Z} f g (x ∷ xs) = map-append f (g x) (flat_map g xs) ∙ ap (λ (zs : List Z). map f (g x) ++ zs) (map_of_flat_map f g xs)

-- elements that give nothing may be left out
pub flat_map_filter : {X Y : Type 0} (f : X → List Y) (q : X → Bool) (xs : List X) → All (λ x. q x ≡ false → f x ≡ []) xs → flat_map f (filter q xs) ≡ flat_map f xs
flat_map_filter f q [] none = refl
flat_map_filter {X} {Y} f q (x ∷ xs) none =
    let rest = flat_map_filter f q xs (All-tail (λ (x : X). q x ≡ false → f x ≡ []) x xs none) in
    elim (cases_Bool (q x)) [
      | inl front ↦ rw front (ap (λ (ys : List Y). f x ++ ys) rest)
      | inr fails ↦ rw fails (rest ∙ ap (λ (ys : List Y). ys ++ flat_map f xs) (sym (All-head (λ (x : X). q x ≡ false → f x ≡ []) x xs none fails)))
    ]

pub flat_map_agree : {X Y : Type 0} (f g : X → List Y) (xs : List X) → All (λ x. f x ≡ g x) xs → flat_map f xs ≡ flat_map g xs
flat_map_agree f g [] same = refl
flat_map_agree {X} {Y} f g (x ∷ xs) same =
    ap (λ (ys : List Y). ys ++ flat_map f xs) (All-head (λ (x : X). f x ≡ g x) x xs same)
    ∙ ap (λ (ys : List Y). g x ++ ys) (flat_map_agree f g xs (All-tail (λ (x : X). f x ≡ g x) x xs same))

-- ---- what is contained once

abbrev pub Apart : {X : Type 0} → List X → Type 0
Apart xs = AllPairs (λ a b. a ≡ b → ⊥) xs

pub apart_cons : {X : Type 0} (x : X) (xs : List X) → (Contains xs x → ⊥) → Apart xs → Apart (x ∷ xs)
apart_cons {X} x xs other rest =
    AllPairs-cons (λ (a b : X). a ≡ b → ⊥) x xs (λ k d lt same. other (subst (λ (z : X). Contains xs z) (sym same) (Contains-get_or xs k d lt))) rest

pub apart_append : {X : Type 0} (xs ys : List X) → Apart xs → Apart ys → ((z : X) → Contains xs z → Contains ys z → ⊥) → Apart (xs ++ ys)
apart_append {X} xs ys a b other =
    pairs_append (λ (a b : X). a ≡ b → ⊥) xs ys a b
    (λ k d lt j e within same. other (get_or xs k d) (Contains-get_or xs k d lt) (subst (λ (z : X). Contains ys z) (sym same) (Contains-get_or ys j e within)))

pub apart_head : {X : Type 0} (x : X) (xs : List X) → Apart (x ∷ xs) → Contains xs x → ⊥
apart_head {X} x xs h has = All-contains (λ (z : X). x ≡ z → ⊥) xs x (pairs_head (λ (a b : X). a ≡ b → ⊥) x xs h) has refl

pub apart_tail : {X : Type 0} (x : X) (xs : List X) → Apart (x ∷ xs) → Apart xs
apart_tail {X} x xs h = pairs_tail (λ (a b : X). a ≡ b → ⊥) x xs h

pub apart_nil : {X : Type 0} → Apart {X = X} []
apart_nil {X} = pairs_nil (λ (a b : X). a ≡ b → ⊥)

pub apart_filter : {X : Type 0} (p : X → Bool) (xs : List X) → Apart xs → Apart (filter p xs)
apart_filter {X} p xs h = AllPairs-filter (λ (a b : X). a ≡ b → ⊥) p xs h

pub apart_map : {X Y : Type 0} (f : X → Y) (xs : List X) → ((a b : X) → f a ≡ f b → a ≡ b) → Apart xs → Apart (map f xs)
apart_map f [] one h = apart_nil
apart_map {X} {Y} f (x ∷ xs) one h =
    apart_cons (f x) (map f xs)
    (λ has. let other = map_contains f xs (f x) has in apart_head x xs h (subst (λ (z : X). Contains xs z) (one other.from x other.is) other.there))
    (apart_map f xs one (apart_tail x xs h))

pub apart_flat_map : {X Y : Type 0} (f : X → List Y) (xs : List X) → ((x : X) → Apart (f x)) → ((a b : X) (y : Y) → Contains (f a) y → Contains (f b) y → a ≡ b) → Apart xs → Apart (flat_map f xs)
apart_flat_map f [] each one h = apart_nil
apart_flat_map {X} {Y} f (x ∷ xs) each one h =
    apart_append (f x) (flat_map f xs) (each x) (apart_flat_map f xs each one (apart_tail x xs h))
    (λ z here later. let other = flat_map_contains f xs z later in apart_head x xs h (subst (λ (k : X). Contains xs k) (one other.from x z other.is here) other.there))

pub apart_numbers : (n : ℕ) → Apart (numbers n)
apart_numbers zero = apart_nil
apart_numbers (suc n) =
    apart_append (numbers n) (n ∷ []) (apart_numbers n) (apart_cons n [] (contains_none n) apart_nil)
    (λ z less last. elim (contains_cases n z [] last) [
      | inl same ↦ (let lt = numbers_within n z less in omega (arith, lt, same))
      | inr none ↦ contains_none z none
    ])

-- ---- two lists in a strict order that have the same elements are one list

same_head : {X : Type 0} (R : X → X → Type 0) → ((x y z : X) → R x y → R y z → R x z) → ((x : X) → R x x → ⊥) → (x y : X) (xs ys : List X) → All (R x) xs → All (R y) ys → Contains (y ∷ ys) x → Contains (x ∷ xs) y → x ≡ y
same_head R trans itself x y xs ys a b to back =
    elim (contains_cases y x ys to) [
      | inl same ↦ sym same
      | inr after_y ↦ elim (contains_cases x y xs back) [
        | inl same ↦ same
        | inr after_x ↦ absurd (itself x (trans x y x (All-contains (R x) xs y a after_x) (All-contains (R y) ys x b after_y)))
      ]
    ]

after_head : {X : Type 0} (R : X → X → Type 0) → ((x : X) → R x x → ⊥) → (x y z : X) (xs ys : List X) → x ≡ y → All (R x) xs → Contains (y ∷ ys) z → Contains xs z → Contains ys z
after_head R itself x y z xs ys same a to has =
    elim (contains_cases y z ys to) [
      | inl first ↦ absurd (itself x (subst (R x) (sym (same ∙ first)) (All-contains (R x) xs z a has)))
      | inr later ↦ later
    ]

pub same_ordered : {X : Type 0} (R : X → X → Type 0) → ((x y z : X) → R x y → R y z → R x z) → ((x : X) → R x x → ⊥) → (xs ys : List X) → AllPairs R xs → AllPairs R ys → ((z : X) → Contains xs z → Contains ys z) → ((z : X) → Contains ys z → Contains xs z) → xs ≡ ys
same_ordered R trans itself [] [] a b to back = refl
same_ordered R trans itself [] (y ∷ ys) a b to back = absurd (contains_none y (back y (contains_head y ys)))
same_ordered R trans itself (x ∷ xs) [] a b to back = absurd (contains_none x (to x (contains_head x xs)))
same_ordered R trans itself (x ∷ xs) (y ∷ ys) a b to back =
    let first_x = pairs_head R x xs a in
    let first_y = pairs_head R y ys b in
    let same : x ≡ y = same_head R trans itself x y xs ys first_x first_y (to x (contains_head x xs)) (back y (contains_head y ys)) in
    let rest : xs ≡ ys = same_ordered R trans itself xs ys (pairs_tail R x xs a) (pairs_tail R y ys b)
    (λ z has. after_head R itself x y z xs ys same first_x (to z (contains_tail x z xs has)) has)
    (λ z has. after_head R itself y x z ys xs (sym same) first_y (back z (contains_tail y z ys has)) has) in
    ap (λ k. k ∷ xs) same ∙ ap (λ zs. y ∷ zs) rest

pub less_trans : (x y z : ℕ) → x < y → y < z → x < z
less_trans x y z a b = omega (arith, a, b)

pub less_itself : (x : ℕ) → x < x → ⊥
less_itself x a = omega (arith, a)

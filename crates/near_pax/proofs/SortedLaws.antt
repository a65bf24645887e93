-- Sorted numbers: two lists of them with the same sums are one list.
use Rattle.std.proofs.Common.{◌≡◌, ℕ, zero, suc, ◌+◌, ◌≤◌, inl, inr, Bool, true, false, cond, eqb, List, [], ◌∷◌, refl, sym, ap, subst, ◌∙◌, arith, zero-add}
use Rattle.std.specs.Prelude.{filter, sum_by}
use Rattle.std.specs.List.{All, AllPairs, Contains}
use Rattle.std.specs.List.Sorted.{IsPermutation}
use Rattle.std.proofs.lemmas.Bool.{cases_Bool, eqb-true, eq-eqb}
use Rattle.std.proofs.lemmas.List.Elements.{All-contains, All-nil, All-cons, All-head, All-tail}
use Rattle.std.proofs.lemmas.List.Kept.{AllPairs-cons, AllPairs-filter}
use Rattle.desk_data.proofs.PathOrder.{pairs_head, pairs_tail, pairs_nil, pairs_append}
use Rattle.std.proofs.lemmas.List.Sums.{sum_by-cons}
use Rattle.std.proofs.lemmas.List.Sorted.{sum_by-IsPermutation}
use Rattle.desk_rules.specs.Numbers.{numbers}
use Rattle.near_moves.proofs.ListLaws.{contains_cases, contains_head, contains_tail, numbers_within, All_from_contains}

-- no number is below an earlier one
abbrev pub Rises : List ℕ → Type 0
Rises xs = AllPairs (λ a b. a ≤ b) xs

-- the sum of a count: how often z is among them
abbrev is_z : ℕ → ℕ → ℕ
is_z z x = cond (eqb x z) 1 0

counted : (z : ℕ) (xs : List ℕ) → 1 ≤ sum_by (is_z z) xs → Contains xs z
counted z [] some = absurd (omega (arith, some))
counted z (x ∷ xs) some =
    elim (cases_Bool (eqb x z)) [
      | inl same ↦ subst (λ (k : ℕ). Contains (x ∷ xs) k) (eqb-true x z same) (contains_head x xs)
      | inr other ↦
          let sum : sum_by (is_z z) (x ∷ xs) ≡ is_z z x + sum_by (is_z z) xs = sum_by-cons (is_z z) x xs in
          let none : is_z z x ≡ 0 = rw other refl in
          contains_tail x z xs (counted z xs (omega (arith, some, sum, none)))
    ]

at_front : (x : ℕ) (xs : List ℕ) → 1 ≤ sum_by (is_z x) (x ∷ xs)
at_front x xs =
    let sum : sum_by (is_z x) (x ∷ xs) ≡ is_z x x + sum_by (is_z x) xs = sum_by-cons (is_z x) x xs in
    let one : is_z x x ≡ 1 = rw (eq-eqb x x refl) refl in
    omega (arith, sum, one)

front-least : (x y : ℕ) (xs : List ℕ) → Rises (x ∷ xs) → Contains (x ∷ xs) y → x ≤ y
front-least x y xs up has =
    elim (contains_cases x y xs has) [
      | inl same ↦ omega (arith, same)
      | inr later ↦ All-contains (λ (k : ℕ). x ≤ k) xs y (pairs_head (λ (a b : ℕ). a ≤ b) x xs up) later
    ]

one_more : (f : ℕ → ℕ) (x : ℕ) (xs ys : List ℕ) → sum_by f (x ∷ xs) ≡ sum_by f (x ∷ ys) → sum_by f xs ≡ sum_by f ys
one_more f x xs ys same =
    let a : sum_by f (x ∷ xs) ≡ f x + sum_by f xs = sum_by-cons f x xs in
    let b : sum_by f (x ∷ ys) ≡ f x + sum_by f ys = sum_by-cons f x ys in
    omega (arith, a, b, same)

none_left : (x : ℕ) (xs : List ℕ) → 0 ≡ sum_by (λ _. 1) (x ∷ xs) → ⊥
none_left x xs same =
    let sum : sum_by (λ (_ : ℕ). 1) (x ∷ xs) ≡ 1 + sum_by (λ (_ : ℕ). 1) xs = sum_by-cons (λ (_ : ℕ). 1) x xs in
    omega (arith, same, sum)

pub same_sums : (xs ys : List ℕ) → Rises xs → Rises ys → ((f : ℕ → ℕ) → sum_by f xs ≡ sum_by f ys) → xs ≡ ys
same_sums [] [] a b same = refl
same_sums [] (y ∷ ys) a b same = absurd (none_left y ys (same (λ _. 1)))
same_sums (x ∷ xs) [] a b same = absurd (none_left x xs (sym (same (λ _. 1))))
same_sums (x ∷ xs) (y ∷ ys) a b same =
    let of_x = at_front x xs in
    let to_x = same (is_z x) in
    let of_y = at_front y ys in
    let to_y = same (is_z y) in
    let low : y ≤ x = front-least y x ys b (counted x (y ∷ ys) (omega (arith, of_x, to_x))) in
    let high : x ≤ y = front-least x y xs a (counted y (x ∷ xs) (omega (arith, of_y, to_y))) in
    let one : x ≡ y = omega (arith, low, high) in
    ap (λ (k : ℕ). k ∷ xs) one
    ∙ ap (λ (zs : List ℕ). y ∷ zs) (same_sums xs ys (pairs_tail (λ (a b : ℕ). a ≤ b) x xs a) (pairs_tail (λ (a b : ℕ). a ≤ b) y ys b) (λ f. one_more f y xs ys (subst (λ (k : ℕ). sum_by f (k ∷ xs) ≡ sum_by f (y ∷ ys)) one (same f))))

-- ---- where they rise, and what they sum to

rises-numbers : (n : ℕ) → Rises (numbers n)
rises-numbers zero = pairs_nil (λ a b. a ≤ b)
rises-numbers (suc n) =
    let R : ℕ → ℕ → Type 0 = λ a b. a ≤ b in
    pairs_append R (numbers n) (n ∷ []) (rises-numbers n)
    (AllPairs-cons R n [] (All-nil (R n)) (pairs_nil R))
    (All_from_contains (λ x. All (R x) (n ∷ [])) (numbers n) (λ x has. let lt = numbers_within n x has in All-cons (R x) n [] (omega (arith, lt)) (All-nil (R x))))

-- the sum of what passes
one_passes : (f : ℕ → ℕ) (x : ℕ) (xs : List ℕ) (b : Bool) → sum_by f (cond b (x ∷ xs) xs) ≡ cond b (f x) 0 + sum_by f xs
one_passes f x xs true = sum_by-cons f x xs
one_passes f x xs false = sym (zero-add (sum_by f xs))

filter-sum : (q : ℕ → Bool) (f : ℕ → ℕ) (xs : List ℕ) → sum_by f (filter q xs) ≡ sum_by (λ x. cond (q x) (f x) 0) xs
filter-sum q f [] = refl
filter-sum q f (x ∷ xs) =
    one_passes f x (filter q xs) (q x)
    ∙ ap (λ (n : ℕ). cond (q x) (f x) 0 + n) (filter-sum q f xs)
    ∙ sym (sum_by-cons (λ x. cond (q x) (f x) 0) x xs)

-- what passes the one test passes the other
pub filter-filter : {X : Type 0} (p q : X → Bool) (xs : List X) → All (λ x. q x ≡ true → p x ≡ true) xs → filter q (filter p xs) ≡ filter q xs
filter-filter p q [] fewer = refl
filter-filter {X} p q (x ∷ xs) fewer =
    let rest = filter-filter p q xs (All-tail (λ (x : X). q x ≡ true → p x ≡ true) x xs fewer) in
    elim (cases_Bool (q x)) [
      | inl on ↦ rw (All-head (λ (x : X). q x ≡ true → p x ≡ true) x xs fewer on, on) (ap (λ (ys : List X). x ∷ ys) rest)
      | inr off ↦ elim (cases_Bool (p x)) [
        | inl passes ↦ rw (passes, off) rest
        | inr fails ↦ rw (fails, off) rest
      ]
    ]

-- what passes of some numbers in another order, once it is sorted
pub sorted-picked : (p q : ℕ → Bool) (n : ℕ) (all picked zs : List ℕ) → IsPermutation (filter p (numbers n)) all → picked ≡ filter q all → IsPermutation picked zs → Rises zs → All (λ x. q x ≡ true → p x ≡ true) (numbers n) → zs ≡ filter q (numbers n)
sorted-picked p q n all picked zs shuffled is sorted up fewer =
    same_sums zs (filter q (numbers n)) up (AllPairs-filter (λ (a b : ℕ). a ≤ b) q (numbers n) (rises-numbers n))
    (λ f.
    sum_by-IsPermutation f picked zs sorted
    ∙ ap (sum_by f) is
    ∙ filter-sum q f all
    ∙ sum_by-IsPermutation (λ x. cond (q x) (f x) 0) (filter p (numbers n)) all shuffled
    ∙ sym (filter-sum q f (filter p (numbers n)))
    ∙ ap (sum_by f) (filter-filter p q (numbers n) fewer))

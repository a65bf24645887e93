-- Sums and counts that change at one number, and sums over those of a list that pass a test.
use Rattle.std.proofs.Common.{◌≡◌, ◌≢◌, ℕ, zero, suc, ◌+◌, ◌<◌, ◌≤◌, ◌⊎◌, inl, inr, Bool, true, false, ◌&&◌, cond, List, [], ◌∷◌, length, map, refl, sym, ap, subst, ◌∙◌, arith, add-one}
use Rattle.std.specs.Prelude.{filter, sum_by, count_by}
use Rattle.std.proofs.lemmas.Bool.{cases_Bool}
use Rattle.std.proofs.lemmas.List.Sums.{sum_by-cons, length-filter}
use Rattle.desk_rules.specs.Numbers.{numbers}
use Rattle.desk_rules.proofs.CostLaws.{sum-more}

-- one where a test holds
abbrev pub one_if : Bool → ℕ
one_if b = cond b 1 0

below_cases : (k n : ℕ) → k < suc n → (k < n) ⊎ (k ≡ n)
below_cases k n h = grind arith

sum_more : (f : ℕ → ℕ) (n : ℕ) → sum_by f (numbers (suc n)) ≡ sum_by f (numbers n) + f n
sum_more f n = subst (λ (k : ℕ). sum_by f (numbers k) ≡ sum_by f (numbers n) + f n) (add-one n) (sum-more f n)

sum_same : (f g : ℕ → ℕ) (n : ℕ) → ((k : ℕ) → k < n → f k ≡ g k) → sum_by f (numbers n) ≡ sum_by g (numbers n)
sum_same f g zero same = refl
sum_same f g (suc n) same = omega (arith, sum_more f n, sum_more g n, sum_same f g n (λ k lt. same k (omega arith)), same n (omega arith))

-- terms that agree but at x
pub sum_change : (f g : ℕ → ℕ) (n x : ℕ) → x < n → ((y : ℕ) → y < n → y ≢ x → f y ≡ g y) → sum_by f (numbers n) + g x ≡ sum_by g (numbers n) + f x
sum_change f g zero x lt same = absurd (omega arith)
sum_change f g (suc n) x lt same =
    elim (below_cases x n lt) [
      | inl less ↦ omega (arith, sum_more f n, sum_more g n, sum_change f g n x less (λ y below. same y (omega arith)), same n (omega arith) (λ e. omega (arith, e, less)))
      | inr here ↦
          let at_f : f x ≡ f n = ap f here in
          let at_g : g x ≡ g n = ap g here in
          omega (arith, at_f, at_g, sum_more f n, sum_more g n, sum_same f g n (λ y below. same y (omega arith) (λ e. omega (arith, e, here, below))))
    ]

-- how many numbers pass tests that agree but at x
pub count_change : (p q : ℕ → Bool) (n x : ℕ) → x < n → ((y : ℕ) → y < n → y ≢ x → p y ≡ q y) → length (filter p (numbers n)) + one_if (q x) ≡ length (filter q (numbers n)) + one_if (p x)
count_change p q n x lt same =
    omega (
      arith,
      length-filter p (numbers n),
      length-filter q (numbers n),
      sum_change (λ y. one_if (p y)) (λ y. one_if (q y)) n x lt (λ y below apart. ap one_if (same y below apart)),
    )

-- each term is a part of the sum
pub part_le : (f : ℕ → ℕ) (n x : ℕ) → x < n → f x ≤ sum_by f (numbers n)
part_le f zero x lt = absurd (omega arith)
part_le f (suc n) x lt =
    elim (below_cases x n lt) [
      | inl less ↦ omega (arith, sum_more f n, part_le f n x less)
      | inr here ↦ let at : f x ≡ f n = ap f here in omega (arith, at, sum_more f n)
    ]

pub counted : (p : ℕ → Bool) (n x : ℕ) → x < n → one_if (p x) ≤ length (filter p (numbers n))
counted p n x lt = omega (arith, length-filter p (numbers n), part_le (λ y. one_if (p y)) n x lt)

-- ---- sums over a list

-- terms that balance have sums that balance
pub sums_balance : {X : Type 0} (f g h k : X → ℕ) (xs : List X) → ((x : X) → f x + g x ≡ h x + k x) → sum_by f xs + sum_by g xs ≡ sum_by h xs + sum_by k xs
sums_balance f g h k [] same = refl
sums_balance f g h k (x ∷ xs) same =
    omega (arith, sum_by-cons f x xs, sum_by-cons g x xs, sum_by-cons h x xs, sum_by-cons k x xs, same x, sums_balance f g h k xs same)

kept_by : {X Y : Type 0} (f : X → Y) (p : Y → Bool) (q : X → Bool) (x : X) (xs : List X) (b : Bool) → q x ≡ b → count_by p (map f (filter q xs)) ≡ sum_by (λ x. one_if (q x && p (f x))) xs → count_by p (map f (cond b (x ∷ filter q xs) (filter q xs))) ≡ sum_by (λ x. one_if (q x && p (f x))) (x ∷ xs)
kept_by {X} {Y} f p q x xs true is more =
    let g : X → ℕ = λ x. one_if (q x && p (f x)) in
    let first : count_by p (f x ∷ map f (filter q xs)) ≡ one_if (p (f x)) + count_by p (map f (filter q xs)) = sum_by-cons (λ (y : Y). one_if (p y)) (f x) (map f (filter q xs)) in
    first
    ∙ ap (λ (n : ℕ). one_if (p (f x)) + n) more
    ∙ ap (λ (b : Bool). one_if (b && p (f x)) + sum_by g xs) (sym is)
    ∙ sym (sum_by-cons g x xs)
kept_by {X} {Y} f p q x xs false is more =
    let g : X → ℕ = λ x. one_if (q x && p (f x)) in
    let none : sum_by g xs ≡ 0 + sum_by g xs = omega arith in
    more ∙ none
    ∙ ap (λ (b : Bool). one_if (b && p (f x)) + sum_by g xs) (sym is)
    ∙ sym (sum_by-cons g x xs)

-- those that pass one test are counted among those that pass another
pub count_kept : {X Y : Type 0} (f : X → Y) (p : Y → Bool) (q : X → Bool) (xs : List X) → count_by p (map f (filter q xs)) ≡ sum_by (λ x. one_if (q x && p (f x))) xs
count_kept f p q [] = refl
count_kept f p q (x ∷ xs) = kept_by f p q x xs (q x) refl (count_kept f p q xs)

-- what is said of those that pass a test
pub map_kept : {X Y : Type 0} (f g : X → Y) (q : X → Bool) (xs : List X) → ((x : X) → q x ≡ true → f x ≡ g x) → map f (filter q xs) ≡ map g (filter q xs)
map_kept f g q [] same = refl
map_kept {X} {Y} f g q (x ∷ xs) same = elim (cases_Bool (q x)) [
  | inl here ↦ rw here (ap (λ (y : Y). y ∷ map f (filter q xs)) (same x here) ∙ ap (λ (ys : List Y). g x ∷ ys) (map_kept f g q xs same))
  | inr off ↦ rw off (map_kept f g q xs same)
]

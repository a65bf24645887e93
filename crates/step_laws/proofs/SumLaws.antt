-- Sums and counts over numbers, as terms change: at one number, or where a test holds.
use Rattle.std.proofs.Common.{◌≡◌, ◌≢◌, ℕ, zero, suc, ◌+◌, ◌<◌, ◌⊎◌, inl, inr, Bool, true, false, cond, List, [], ◌∷◌, length, get_or, refl, sym, ap, ◌∙◌, arith}
use Rattle.std.specs.List.{filter, sum_by, count_by}
use Rattle.std.proofs.lemmas.List.Sums.{sum_by_push, sum_by-cons, length-filter}
use Rattle.std.specs.Prelude.{◌&&◌, not, ◌==◌}
use Rattle.std.proofs.lemmas.Bool.{cases_Bool}
use Rattle.std.proofs.lemmas.Bool.Decides.{nat_tests}
use Rattle.desk_rules.specs.Numbers.{numbers, none_below}

-- terms that agree below n have one sum
pub sum_same : (f g : ℕ → ℕ) (n : ℕ) → ((y : ℕ) → y < n → f y ≡ g y) → sum_by f (numbers n) ≡ sum_by g (numbers n)
sum_same f g zero same = refl
sum_same f g (suc n) same =
    omega (arith, sum_by_push f (numbers n) n, sum_by_push g (numbers n) n, sum_same f g n (λ y lt. same y (omega arith)), same n (omega arith))

-- terms that agree but at x
pub sum_change : (f g : ℕ → ℕ) (n x : ℕ) → x < n → ((y : ℕ) → y ≢ x → f y ≡ g y) → sum_by f (numbers n) + g x ≡ sum_by g (numbers n) + f x
sum_change f g zero x lt same = absurd (omega arith)
sum_change f g (suc n) x lt same =
    let cases : (x < n) ⊎ (x ≡ n) = grind arith in
    elim cases [
      | inl less ↦ omega (arith, sum_by_push f (numbers n) n, sum_by_push g (numbers n) n, sum_change f g n x less same, same n (λ e. omega arith))
      | inr here ↦
          let at_f : f x ≡ f n = ap f here in
          let at_g : g x ≡ g n = ap g here in
          omega (arith, at_f, at_g, sum_by_push f (numbers n) n, sum_by_push g (numbers n) n, sum_same f g n (λ y lt. same y (λ e. omega arith)))
    ]

-- one where a test holds
abbrev pub one_if : Bool → ℕ
one_if b = cond b 1 0

-- how many numbers pass a test, where it changes at x alone
pub count_change : (p q : ℕ → Bool) (n x : ℕ) → x < n → ((y : ℕ) → y ≢ x → p y ≡ q y) → count_by p (numbers n) + one_if (q x) ≡ count_by q (numbers n) + one_if (p x)
count_change p q n x lt same = sum_change (λ y. one_if (p y)) (λ y. one_if (q y)) n x lt (λ y apart. ap one_if (same y apart))

-- the same of a count by a filtered list
pub filter_change : (p q : ℕ → Bool) (n x : ℕ) → x < n → ((y : ℕ) → y ≢ x → p y ≡ q y) → length (filter p (numbers n)) + one_if (q x) ≡ length (filter q (numbers n)) + one_if (p x)
filter_change p q n x lt same =
    omega (
      arith,
      length-filter p (numbers n),
      length-filter q (numbers n),
      sum_change (λ y. one_if (p y)) (λ y. one_if (q y)) n x lt (λ y apart. ap one_if (same y apart)),
    )

-- terms that agree where a test fails: the sums differ by those where it holds
pub sum_where : {X : Type 0} (p : X → Bool) (f g : X → ℕ) (xs : List X) → ((x : X) → p x ≡ false → f x ≡ g x) → sum_by f xs + sum_by g (filter p xs) ≡ sum_by g xs + sum_by f (filter p xs)
sum_where p f g [] same = refl
sum_where p f g (x ∷ xs) same = elim (cases_Bool (p x)) [
  | inl here ↦ rw here (omega (arith, sum_where p f g xs same, sum_by-cons f x xs, sum_by-cons g x xs, sum_by-cons f x (filter p xs), sum_by-cons g x (filter p xs)))
  | inr there ↦ rw there (omega (arith, same x there, sum_where p f g xs same, sum_by-cons f x xs, sum_by-cons g x xs))
]

and_right : (a : Bool) → (a && true) ≡ a
and_right true = refl
and_right false = refl

and_wrong : (a : Bool) → (a && false) ≡ false
and_wrong true = refl
and_wrong false = refl

none_counted : (b c : Bool) (n : ℕ) → b ≡ (n == 0) → (b && not c) ≡ (n + one_if c == 0)
none_counted b true n e = and_wrong b ∙ grind (arith, nat_tests)
none_counted b false n e = and_right b ∙ e ∙ ap (λ (k : ℕ). k == 0) (omega arith)

-- none passes exactly where none is counted
pub none_by_count : (p : ℕ → Bool) (n : ℕ) → none_below n p ≡ (count_by p (numbers n) == 0)
none_by_count p zero = refl
none_by_count p (suc n) =
    none_counted (none_below n p) (p n) (count_by p (numbers n)) (none_by_count p n)
    ∙ ap (λ (k : ℕ). k == 0) (sym (sum_by_push (λ y. one_if (p y)) (numbers n) n))

-- ---- lists

-- the term of 0 comes first
first_number : (f : ℕ → ℕ) (n : ℕ) → sum_by f (numbers (suc n)) ≡ f zero + sum_by (λ r. f (suc r)) (numbers n)
first_number f zero = omega arith
first_number f (suc n) = omega (arith, sum_by_push f (numbers (suc n)) (suc n), first_number f n, sum_by_push (λ (r : ℕ). f (suc r)) (numbers n) n)

-- a sum over lists is one over their numbers
pub sum_lists : {X : Type 0} (f : List X → ℕ) (xs : List (List X)) → sum_by f xs ≡ sum_by (λ r. f (get_or xs r [])) (numbers (length xs))
sum_lists f [] = refl
sum_lists f (x ∷ xs) = sum_by-cons f x xs ∙ ap (λ (n : ℕ). f x + n) (sum_lists f xs) ∙ sym (first_number (λ (r : ℕ). f (get_or (x ∷ xs) r [])) (length xs))

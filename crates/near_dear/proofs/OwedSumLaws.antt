-- Sums of what passes a test.
use Rattle.std.proofs.Common.{◌≡◌, ℕ, zero, suc, ◌+◌, ◌<◌, ◌≤◌, inl, inr, Bool, true, false, ◌||◌, not, cond, eqb, List, [], ◌∷◌, refl, sym, arith}
use Rattle.std.specs.Prelude.{sum_by}
use Rattle.std.specs.List.{list_any}
use Rattle.std.proofs.lemmas.Bool.{cases_lt, eq-eqb, ne_eqb}
use Rattle.std.proofs.lemmas.List.Sums.{sum_by-cons, sum_by_push, sum_by-le-sum_by}
use Rattle.desk_rules.specs.Numbers.{numbers}
use Rattle.step_laws.proofs.SumLaws.{sum_same, sum_change}
use Rattle.near_dear.proofs.LegSumLaws.{none-sum}

-- what those of the first n numbers come to that pass a test
abbrev pub some_of : (ℕ → ℕ) → ℕ → (ℕ → Bool) → ℕ
some_of f n test = sum_by (λ y. cond (test y) (f y) 0) (numbers n)

-- terms that are at most what two others come to: so are the sums
pub two-le : (f g h : ℕ → ℕ) (n : ℕ) → ((y : ℕ) → f y ≤ g y + h y) → sum_by f (numbers n) ≤ sum_by g (numbers n) + sum_by h (numbers n)
two-le f g h zero less = omega arith
two-le f g h (suc n) less =
    let rest = two-le f g h n less in
    let here = less n in
    omega (arith, sum_by_push f (numbers n) n, sum_by_push g (numbers n) n, sum_by_push h (numbers n) n, rest, here)

-- and the other way round, of numbers below n
pub both-le : (f g h : ℕ → ℕ) (n : ℕ) → ((y : ℕ) → y < n → f y + g y ≤ h y) → sum_by f (numbers n) + sum_by g (numbers n) ≤ sum_by h (numbers n)
both-le f g h zero less = omega arith
both-le f g h (suc n) less =
    let rest = both-le f g h n (λ y lt. less y (omega (arith, lt))) in
    let here = less n (omega arith) in
    omega (arith, sum_by_push f (numbers n) n, sum_by_push g (numbers n) n, sum_by_push h (numbers n) n, rest, here)

either-part : (a b : Bool) (c : ℕ) → cond (a || b) c 0 ≤ cond a c 0 + cond b c 0
either-part true b c = omega arith
either-part false b c = omega arith

whole-part : (b : Bool) (c : ℕ) → c ≤ cond (not b) c 0 + cond b c 0
whole-part true c = omega arith
whole-part false c = omega arith

-- those that pass one of some tests come to at most what those do that pass each
pub any-le : (f : ℕ → ℕ) (n : ℕ) (test : ℕ → ℕ → Bool) (xs : List ℕ) → some_of f n (λ y. list_any (λ x. test x y) xs) ≤ sum_by (λ x. some_of f n (test x)) xs
any-le f n test [] =
    let none : some_of f n (λ y. list_any (λ x. test x y) []) ≡ 0 = none-sum n in
    omega (arith, none)
any-le f n test (x ∷ xs) =
    let both : some_of f n (λ y. list_any (λ z. test z y) (x ∷ xs)) ≤ some_of f n (test x) + some_of f n (λ y. list_any (λ z. test z y) xs) =
    two-le (λ y. cond (list_any (λ z. test z y) (x ∷ xs)) (f y) 0) (λ y. cond (test x y) (f y) 0) (λ y. cond (list_any (λ z. test z y) xs) (f y) 0) n
    (λ y. either-part (test x y) (list_any (λ z. test z y) xs) (f y)) in
    let rest = any-le f n test xs in
    omega (arith, both, rest, sum_by-cons (λ z. some_of f n (test z)) x xs)

-- all come to at most what those do that pass a test and those that do not
pub others-le : (f : ℕ → ℕ) (n : ℕ) (test : ℕ → Bool) → sum_by f (numbers n) ≤ some_of f n (λ y. not (test y)) + some_of f n test
others-le f n test = two-le f (λ y. cond (not (test y)) (f y) 0) (λ y. cond (test y) (f y) 0) n (λ y. whole-part (test y) (f y))

-- that of one number alone
pub one-le : (f : ℕ → ℕ) (n x : ℕ) → some_of f n (eqb x) ≤ f x
one-le f n x =
    let only : ℕ → ℕ = λ y. cond (eqb x y) (f y) 0 in
    let off : (y : ℕ) → (y ≡ x → ⊥) → only y ≡ 0 = λ y other. rw (ne_eqb x y (λ same. other (sym same))) refl in
    elim (cases_lt x n) [
      | inl lt ↦
          let at : only x ≡ f x = rw (eq-eqb x x refl) refl in
          let change = sum_change only (λ y. 0) n x lt off in
          omega (arith, change, none-sum n, at)
      | inr past ↦
          let none : sum_by only (numbers n) ≡ sum_by (λ y. 0) (numbers n) = sum_same only (λ y. 0) n (λ y lt. off y (λ same. omega (arith, lt, past, same))) in
          omega (arith, none, none-sum n)
    ]

-- so those that are among some numbers come to at most what these do
pub among-le : (f : ℕ → ℕ) (n : ℕ) (xs : List ℕ) → some_of f n (λ y. list_any (λ x. eqb x y) xs) ≤ sum_by f xs
among-le f n xs =
    let any = any-le f n eqb xs in
    let each = sum_by-le-sum_by (λ x. some_of f n (eqb x)) f xs (one-le f n) in
    omega (arith, any, each)

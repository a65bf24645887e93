-- Sums and counts over numbers.
use Rattle.std.proofs.Common.{◌≡◌, ℕ, zero, suc, ◌+◌, ◌<◌, Bool, cond, List, [], ◌∷◌, ◌++◌, refl, sym, ap, subst, ◌∙◌, arith, add-one}
use Rattle.std.specs.Prelude.{filter, sum_by}
use Rattle.std.proofs.lemmas.List.Elements.{filter-append}
use Rattle.desk_rules.specs.Numbers.{numbers}
use Rattle.desk_rules.proofs.CostLaws.{sum-more}

pub sum_more : (f : ℕ → ℕ) (n : ℕ) → sum_by f (numbers (suc n)) ≡ sum_by f (numbers n) + f n
sum_more f n = subst (λ (k : ℕ). sum_by f (numbers k) ≡ sum_by f (numbers n) + f n) (add-one n) (sum-more f n)

-- a sum over more numbers
pub sum_split : (f : ℕ → ℕ) (n m : ℕ) → sum_by f (numbers (n + m)) ≡ sum_by f (numbers n) + sum_by (λ k. f (n + k)) (numbers m)
sum_split f n zero =
    let none : n + 0 ≡ n = omega arith in
    ap (λ (k : ℕ). sum_by f (numbers k)) none ∙ (let same : sum_by f (numbers n) ≡ sum_by f (numbers n) + 0 = omega arith in same)
sum_split f n (suc m) =
    let one : n + suc m ≡ (n + m) + 1 = omega arith in
    let more : sum_by (λ k. f (n + k)) (numbers (suc m)) ≡ sum_by (λ k. f (n + k)) (numbers m) + f (n + m) =
    subst (λ (k : ℕ). sum_by (λ k. f (n + k)) (numbers k) ≡ sum_by (λ k. f (n + k)) (numbers m) + f (n + m)) (add-one m) (sum-more (λ k. f (n + k)) m) in
    ap (λ (k : ℕ). sum_by f (numbers k)) one
    ∙ (let all : sum_by f (numbers ((n + m) + 1)) ≡ sum_by f (numbers n) + sum_by (λ k. f (n + k)) (numbers (suc m)) = omega (arith, sum-more f (n + m), sum_split f n m, more) in all)

pub sum_same : (f g : ℕ → ℕ) (n : ℕ) → ((k : ℕ) → k < n → f k ≡ g k) → sum_by f (numbers n) ≡ sum_by g (numbers n)
sum_same f g zero same = refl
sum_same f g (suc n) same =
    subst (λ (k : ℕ). sum_by f (numbers k) ≡ sum_by g (numbers k)) (add-one n)
    (omega (arith, sum-more f n, sum-more g n, sum_same f g n (λ k lt. same k (omega arith)), same n (omega arith)))

pub filter_more : (test : ℕ → Bool) (n : ℕ) → filter test (numbers (suc n)) ≡ filter test (numbers n) ++ cond (test n) (n ∷ []) []
filter_more test n = filter-append test (numbers n) (n ∷ [])

pub filter_same : (f g : ℕ → Bool) (n : ℕ) → ((k : ℕ) → k < n → f k ≡ g k) → filter f (numbers n) ≡ filter g (numbers n)
filter_same f g zero same = refl
filter_same f g (suc n) same =
    filter_more f n
    ∙ ap (λ (front : List ℕ). front ++ cond (f n) (n ∷ []) []) (filter_same f g n (λ k lt. same k (omega arith)))
    ∙ ap (λ (b : Bool). filter g (numbers n) ++ cond b (n ∷ []) []) (same n (omega arith))
    ∙ sym (filter_more g n)

-- Sums over the legs of an aircraft, and over all legs.
use Rattle.std.proofs.Common.{◌≡◌, ℕ, zero, suc, ◌+◌, ◌*◌, ◌<◌, inl, inr, Bool, true, ◌&&◌, not, cond, eqb, List, [], ◌∷◌, refl, sym, ap, subst, ◌∙◌, arith}
use Rattle.std.specs.Prelude.{sum_by}
use Rattle.std.specs.List.{Contains}
use Rattle.std.proofs.Math.Nat.{mul-add}
use Rattle.std.proofs.lemmas.Bool.{true≢false, and_parts, and_from, eq-eqb, ne_eqb, not-true, false_from_ne_true}
use Rattle.std.proofs.lemmas.List.Sums.{sum_by-cons, sum_by_push}
use Rattle.desk_rules.specs.Numbers.{numbers}
use Rattle.step_laws.proofs.SumLaws.{sum_same, sum_change}
use Rattle.near_moves.proofs.ListLaws.{contains_cases, contains_head, contains_tail, contains_none}
use Rattle.near_moves.proofs.TallyLaws.{AreApart}

pub none-sum : (n : ℕ) → sum_by (λ y. 0) (numbers n) ≡ 0
none-sum zero = refl
none-sum (suc n) =
    let rest = none-sum n in
    omega (arith, sum_by_push (λ y. 0) (numbers n) n, rest)

-- a term where a test holds
abbrev pub part : Bool → ℕ → ℕ
part b n = cond b n 0

-- the numbers below n that pass a test are the members of a list
pub record AreMembers (n : ℕ) (t : ℕ → Bool) (xs : List ℕ) : Type 0 where
  pub within : (z : ℕ) → Contains xs z → z < n
  pub pass : (z : ℕ) → Contains xs z → t z ≡ true
  pub each : (z : ℕ) → z < n → t z ≡ true → Contains xs z

pub members-sum : (f : ℕ → ℕ) (n : ℕ) (t : ℕ → Bool) (xs : List ℕ) → AreApart xs → AreMembers n t xs → sum_by f xs ≡ sum_by (λ y. part (t y) (f y)) (numbers n)
members-sum f n t [] apart are =
    let off : (y : ℕ) → y < n → part (t y) (f y) ≡ 0 = λ y lt. ap (λ (b : Bool). part b (f y)) (false_from_ne_true (t y) (λ on. contains_none y (are.each y lt on))) in
    sym (sum_same (λ y. part (t y) (f y)) (λ y. 0) n off ∙ none-sum n)
members-sum f n t (x ∷ xs) apart are =
    let rest : ℕ → Bool = λ y. not (eqb y x) && t y in
    let less : AreMembers n rest xs = record {
      within = λ z has. are.within z (contains_tail x z xs has);
      pass = λ z has. and_from (not (eqb z x)) (t z) (ap not (ne_eqb z x (λ same. apart.0 (subst (Contains xs) same has)))) (are.pass z (contains_tail x z xs has));
      each = λ z lt on.
          let parts = and_parts (not (eqb z x)) (t z) on in
          elim (contains_cases x z xs (are.each z lt parts.1)) [
            | inl same ↦ absurd (true≢false (sym (eq-eqb z x (sym same)) ∙ not-true (eqb z x) parts.0))
            | inr more ↦ more
          ];
    } in
    let more = members-sum f n rest xs apart.1 less in
    let all : ℕ → ℕ = λ y. part (t y) (f y) in
    let others : ℕ → ℕ = λ y. part (rest y) (f y) in
    let change = sum_change all others n x (are.within x (contains_head x xs)) (λ y other. ap (λ (b : Bool). part (not b && t y) (f y)) (sym (ne_eqb y x other))) in
    let here : all x ≡ f x = ap (λ (b : Bool). part b (f x)) (are.pass x (contains_head x xs)) in
    let none : others x ≡ 0 = ap (λ (b : Bool). part (not b && t x) (f x)) (eq-eqb x x refl) in
    omega (arith, sum_by-cons f x xs, more, change, here, none)

-- one price for each
pub scaled : {X : Type 0} (price : ℕ) (f : X → ℕ) (xs : List X) → sum_by (λ x. price * f x) xs ≡ price * sum_by f xs
scaled price f [] = omega arith
scaled price f (x ∷ xs) = sum_by-cons (λ y. price * f y) x xs ∙ ap (λ (n : ℕ). price * f x + n) (scaled price f xs) ∙ sym (ap (λ (n : ℕ). price * n) (sum_by-cons f x xs) ∙ mul-add price (f x) (sum_by f xs))

-- two terms each, which come to as much
pub two-sums : (f g h k : ℕ → ℕ) (n : ℕ) → ((y : ℕ) → y < n → f y + g y ≡ h y + k y) → sum_by f (numbers n) + sum_by g (numbers n) ≡ sum_by h (numbers n) + sum_by k (numbers n)
two-sums f g h k zero same = refl
two-sums f g h k (suc n) same =
    let rest = two-sums f g h k n (λ y lt. same y (omega arith)) in
    let here = same n (omega arith) in
    omega (arith, sum_by_push f (numbers n) n, sum_by_push g (numbers n) n, sum_by_push h (numbers n) n, sum_by_push k (numbers n) n, rest, here)

pub sum-two : (f g : ℕ → ℕ) (n : ℕ) → sum_by (λ y. f y + g y) (numbers n) ≡ sum_by f (numbers n) + sum_by g (numbers n)
sum-two f g zero = refl
sum-two f g (suc n) =
    let rest = sum-two f g n in
    omega (arith, sum_by_push f (numbers n) n, sum_by_push g (numbers n) n, sum_by_push (λ y. f y + g y) (numbers n) n, rest)

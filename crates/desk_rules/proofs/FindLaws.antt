-- What `find` says over the items of numbers.
use Rattle.std.proofs.Common.{◌≡◌, ℕ, zero, suc, ◌<◌, ◌⊎◌, inl, inr, Bool, true, false, cond, List, [], ◌∷◌, ◌++◌, refl, sym, ap, subst, ◌∙◌, arith}
use Rattle.std.specs.Prelude.{find, map, None, Some, Option}
use Rattle.std.specs.Option.{option_or}
use Rattle.std.specs.List.{AllByRecursion, flat_map}
use Rattle.std.proofs.lemmas.List.{map-append}
use Rattle.std.proofs.lemmas.List.Concat.{flat_map-append}
use Rattle.std.proofs.lemmas.List.Folds.{find-append}
use Rattle.desk_rules.specs.Numbers.{numbers}

or_none : {X : Type 0} (a b : Option X) → option_or a b ≡ None → (a ≡ None) × (b ≡ None)
or_none None b h = (refl, h)
or_none (Some x) b h = absurd cc

pub find_none-parts : {X : Type 0} (p : X → Bool) (xs ys : List X) → find p (xs ++ ys) ≡ None → (find p xs ≡ None) × (find p ys ≡ None)
find_none-parts p xs ys h = or_none (find p xs) (find p ys) (sym (find-append p xs ys) ∙ h)

pub find_none-both : {X : Type 0} (p : X → Bool) (xs ys : List X) → find p xs ≡ None → find p ys ≡ None → find p (xs ++ ys) ≡ None
find_none-both p xs ys a b = find-append p xs ys ∙ rw (a, b) refl

one_none : {X : Type 0} (b : Bool) (x : X) → cond b (Some x) None ≡ None → b ≡ false
one_none true x h = absurd cc
one_none false x h = refl

-- the first of a list, and those after it
pub none-cons : {X : Type 0} (p : X → Bool) (x : X) (xs : List X) → find p (x ∷ xs) ≡ None → (p x ≡ false) × (find p xs ≡ None)
none-cons p x xs h = let parts = find_none-parts p (x ∷ []) xs h in (one_none (p x) x parts.0, parts.1)

pub cons-none : {X : Type 0} (p : X → Bool) (x : X) (xs : List X) → p x ≡ false → find p xs ≡ None → find p (x ∷ xs) ≡ None
cons-none p x xs here after = rw here after

-- where none of the items of the numbers is found, each fails the test
pub none_of_numbers : {X : Type 0} (p : X → Bool) (f : ℕ → X) (n : ℕ) → find p (map f (numbers n)) ≡ None → (k : ℕ) → k < n → p (f k) ≡ false
none_of_numbers p f zero h k lt = absurd (omega arith)
none_of_numbers p f (suc n) h k lt =
    let parts = find_none-parts p (map f (numbers n)) (f n ∷ []) (ap (find p) (sym (map-append f (numbers n) (n ∷ []))) ∙ h) in
    let cases : (k < n) ⊎ (k ≡ n) = grind arith in
    elim cases [
      | inl less ↦ none_of_numbers p f n parts.0 k less
      | inr same ↦ subst (λ (j : ℕ). p (f j) ≡ false) (sym same) (one_none (p (f n)) (f n) parts.1)
    ]

pub numbers_none : {X : Type 0} (p : X → Bool) (f : ℕ → X) (n : ℕ) → ((k : ℕ) → k < n → p (f k) ≡ false) → find p (map f (numbers n)) ≡ None
numbers_none p f zero h = refl
numbers_none p f (suc n) h =
    ap (find p) (map-append f (numbers n) (n ∷ []))
    ∙ find_none-both p (map f (numbers n)) (f n ∷ []) (numbers_none p f n (λ k lt. h k (omega arith))) (rw (h n (omega arith)) refl)

-- what is found passes the test, and nothing before it does
pub record Found {X : Type 0} (p : X → Bool) (xs : List X) (x : X) : Type 0 where
  pub before : List X
  pub after : List X
  pub place : xs ≡ before ++ x ∷ after
  pub passed : AllByRecursion (λ y. p y ≡ false) before
  pub holds : p x ≡ true

found_in : {X : Type 0} (p : X → Bool) (y : X) (ys : List X) (x : X) (b : Bool) → p y ≡ b → cond b (Some y) (find p ys) ≡ Some x → (find p ys ≡ Some x → Found p ys x) → Found p (y ∷ ys) x
found_in p y ys x true test h more =
    let same : y ≡ x = cc in
    record { before = []; after = ys; place = ap (λ z. z ∷ ys) same; passed = tt; holds = subst (λ z. p z ≡ true) same test }
found_in p y ys x false test h more =
    let rest = more h in
    record { before = y ∷ rest.before; after = rest.after; place = ap (λ zs. y ∷ zs) rest.place; passed = (test, rest.passed); holds = rest.holds }

pub found : {X : Type 0} (p : X → Bool) (xs : List X) (x : X) → find p xs ≡ Some x → Found p xs x
found p [] x h = absurd cc
found p (y ∷ ys) x h = found_in p y ys x (p y) refl h (found p ys x)

-- ---- lists for the numbers

pub none_of_lists : {X : Type 0} (p : X → Bool) (f : ℕ → List X) (n : ℕ) → find p (flat_map f (numbers n)) ≡ None → (k : ℕ) → k < n → find p (f k) ≡ None
none_of_lists p f zero h k lt = absurd (omega arith)
none_of_lists p f (suc n) h k lt =
    let parts = find_none-parts p (flat_map f (numbers n)) (f n ++ []) (ap (find p) (sym (flat_map-append f (numbers n) (n ∷ []))) ∙ h) in
    let cases : (k < n) ⊎ (k ≡ n) = grind arith in
    elim cases [
      | inl less ↦ none_of_lists p f n parts.0 k less
      | inr same ↦ subst (λ (j : ℕ). find p (f j) ≡ None) (sym same) (find_none-parts p (f n) [] parts.1).0
    ]

pub lists_none : {X : Type 0} (p : X → Bool) (f : ℕ → List X) (n : ℕ) → ((k : ℕ) → k < n → find p (f k) ≡ None) → find p (flat_map f (numbers n)) ≡ None
lists_none p f zero h = refl
lists_none p f (suc n) h =
    ap (find p) (flat_map-append f (numbers n) (n ∷ []))
    ∙ find_none-both p (flat_map f (numbers n)) (f n ++ []) (lists_none p f n (λ k lt. h k (omega arith))) (find_none-both p (f n) [] (h n (omega arith)) refl)

-- ---- the first of the numbers

pub first_of_numbers : {X : Type 0} (p : X → Bool) (f : ℕ → X) (n k : ℕ) → k < n → p (f k) ≡ true → ((j : ℕ) → j < k → p (f j) ≡ false) → find p (map f (numbers n)) ≡ Some (f k)
first_of_numbers p f zero k lt here before = absurd (omega arith)
first_of_numbers p f (suc n) k lt here before =
    let parts = ap (find p) (map-append f (numbers n) (n ∷ [])) ∙ find-append p (map f (numbers n)) (f n ∷ []) in
    let cases : (k < n) ⊎ (k ≡ n) = grind arith in
    elim cases [
      | inl less ↦ parts ∙ rw (first_of_numbers p f n k less here before) refl
      | inr same ↦ parts
          ∙ rw (numbers_none p f n (λ j lt. before j (omega arith))) (subst (λ (j : ℕ). find p (f j ∷ []) ≡ Some (f k)) same (rw here refl))
    ]

pub first_of_lists : {X : Type 0} (p : X → Bool) (f : ℕ → List X) (n k : ℕ) (x : X) → k < n → find p (f k) ≡ Some x → ((j : ℕ) → j < k → find p (f j) ≡ None) → find p (flat_map f (numbers n)) ≡ Some x
first_of_lists p f zero k x lt here before = absurd (omega arith)
first_of_lists p f (suc n) k x lt here before =
    let parts = ap (find p) (flat_map-append f (numbers n) (n ∷ [])) ∙ find-append p (flat_map f (numbers n)) (f n ++ []) in
    let cases : (k < n) ⊎ (k ≡ n) = grind arith in
    elim cases [
      | inl less ↦ parts ∙ rw (first_of_lists p f n k x less here before) refl
      | inr same ↦
          let last : find p (f n ++ []) ≡ Some x = subst (λ (j : ℕ). find p (f j ++ []) ≡ Some x) same (find-append p (f k) [] ∙ rw here refl) in
          parts ∙ rw (lists_none p f n (λ j lt. before j (omega arith)), last) refl
    ]

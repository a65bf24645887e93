-- What is owed, found among steps by their thresholds.
use Rattle.std.proofs.Common.{◌≡◌, ℕ, ◌+◌, ◌<◌, ◌≤◌, Bool, true, false, not, ◌||◌, cond, leb, eqb, zero, suc, List, [], ◌∷◌, length, get_or, Option, Some, None, refl, subst, ap, ◌∙◌, ◌⊎◌, inl, inr, ⊎_elim, arith}
use Rattle.std.specs.Option.{ForSome, option_map_or}
use Rattle.std.specs.List.{All, AllWithin, Contains, find, list_all}
use Rattle.std.proofs.lemmas.Bool.{leb-true, leb-false, le-leb, lt-leb, eq-eqb, cases_Bool, cases_lt, and_parts, and_from, and_left}
use Rattle.std.proofs.lemmas.Bool.Decides.{same_from_decides, Decides-eqb}
use Rattle.std.proofs.lemmas.List.{get_or_default}
use Rattle.std.proofs.lemmas.List.Elements.{All-nil, All-cons, All-head, All-tail, All-weaker, All-get_or, All-contains, All-contains_itself, Contains-append_right}
use Rattle.std.proofs.lemmas.List.Sorted.{All-permutation, IsPermutation-sym}
use Rattle.std.proofs.lemmas.Option.{same_Some, none-some}
use Rattle.tariff_prices.specs.declared.purpose.Step.{Step}
use Rattle.tariff_prices.specs.Rows.{IsPrice}
use Rattle.tariff_prices.specs.Prices.{is_owed_at, owed_at}
use Rattle.tariff_prices.specs.PriceTables.{AreApart, AreSteps}
use Rattle.tariff_prices.proofs.RateLemmas.{IsStep}

-- the greatest threshold that a delay reaches
record IsGreatest (delay : ℕ) (all : List Step) (best : Step) : Type 0 where
  reached : best.from ≤ delay
  greatest : All (λ other. other.from ≤ delay → other.from ≤ best.from) all
  first : find (λ other. eqb other.from best.from) all ≡ Some best

find_none : (p : Step → Bool) (xs : List Step) → All (λ x. p x ≡ false) xs → find p xs ≡ None
find_none p [] h = refl
find_none p (x ∷ xs) h =
    rw (All-head (λ y. p y ≡ false) x xs h) (find_none p xs (All-tail (λ y. p y ≡ false) x xs h))

list_all_from : (p : Step → Bool) (xs : List Step) → All (λ x. p x ≡ true) xs → list_all p xs ≡ true
list_all_from p [] h = refl
list_all_from p (x ∷ xs) h =
    and_from (p x) (list_all p xs) (All-head (λ y. p y ≡ true) x xs h) (list_all_from p xs (All-tail (λ y. p y ≡ true) x xs h))

All-from_list_all : (p : Step → Bool) (xs : List Step) → list_all p xs ≡ true → All (λ x. p x ≡ true) xs
All-from_list_all p [] h = All-nil (λ y. p y ≡ true)
All-from_list_all p (x ∷ xs) h =
    let parts = and_parts (p x) (list_all p xs) h in
    All-cons (λ y. p y ≡ true) x xs parts.0 (All-from_list_all p xs parts.1)

find_agree : (p q : Step → Bool) (xs : List Step) → All (λ x. p x ≡ q x) xs → find p xs ≡ find q xs
find_agree p q [] h = refl
find_agree p q (x ∷ xs) h =
    rw (All-head (λ y. p y ≡ q y) x xs h, find_agree p q xs (All-tail (λ y. p y ≡ q y) x xs h)) refl

found_or : (test : Bool) (x y : Step) (o : Option Step) → cond test (Some x) o ≡ Some y → (x ≡ y) ⊎ (o ≡ Some y)
found_or true x y o h = inl (same_Some x y h)
found_or false x y o h = inr h

pub Contains-find : (p : Step → Bool) (xs : List Step) (y : Step) → find p xs ≡ Some y → Contains xs y
Contains-find p [] y h = absurd (none-some y h)
Contains-find p (x ∷ xs) y h =
    elim (found_or (p x) x y (find p xs) h) [
      | inl e ↦ (0, omega arith, e)
      | inr e ↦ Contains-append_right (x ∷ []) xs y (Contains-find p xs y e)
    ]

reached_or : (from delay top : ℕ) → (from ≤ delay → from ≤ top) → (not (leb from delay) || leb from top) ≡ true
reached_or from delay top h =
    elim (cases_Bool (leb from delay)) [
      | inl e ↦ rw e (le-leb from top (h (leb-true from delay e)))
      | inr e ↦ rw e refl
    ]

-- a threshold of the list is owed exactly where it is the greatest that is reached
owed_by_all : (delay : ℕ) (all : List Step) (step best : Step) → IsGreatest delay all best → is_owed_at delay all step ≡ true → Contains all step → step.from ≡ best.from
owed_by_all delay all step best b is within =
    let parts = and_parts (leb step.from delay) (list_all (λ (o : Step). not (leb o.from delay) || leb o.from step.from) all) is in
    let reached = leb-true step.from delay parts.0 in
    let least = All-contains (λ (o : Step). o.from ≤ delay → o.from ≤ best.from) all step b.greatest within reached in
    let above = All-contains (λ (o : Step). (not (leb o.from delay) || leb o.from step.from) ≡ true) all best (All-from_list_all (λ (o : Step). not (leb o.from delay) || leb o.from step.from) all parts.1) (Contains-find (λ (o : Step). eqb o.from best.from) all best b.first) in
    let most : best.from ≤ step.from = leb-true best.from step.from (rw (le-leb best.from delay b.reached) at above) in
    omega arith

owed_from_best : (delay : ℕ) (all : List Step) (step best : Step) → IsGreatest delay all best → step.from ≡ best.from → is_owed_at delay all step ≡ true
owed_from_best delay all step best b e =
    and_from (leb step.from delay) (list_all (λ (o : Step). not (leb o.from delay) || leb o.from step.from) all) (le-leb step.from delay (omega (arith, b.reached))) (list_all_from (λ (o : Step). not (leb o.from delay) || leb o.from step.from) all (All-weaker (λ (o : Step). o.from ≤ delay → o.from ≤ best.from) (λ o. (not (leb o.from delay) || leb o.from step.from) ≡ true) (λ o k. reached_or o.from delay step.from (λ l. omega (arith, k l))) all b.greatest))

is_owed_same : (delay : ℕ) (all : List Step) (best : Step) → IsGreatest delay all best → All (λ step. is_owed_at delay all step ≡ eqb step.from best.from) all
is_owed_same delay all best b =
    All-weaker (Contains all) (λ step. is_owed_at delay all step ≡ eqb step.from best.from) (λ step within. same_from_decides (is_owed_at delay all step) (eqb step.from best.from) (λ is. owed_by_all delay all step best b is within, owed_from_best delay all step best b) (Decides-eqb step.from best.from)) all (All-contains_itself all)

-- the price of the greatest threshold that is reached
owed_at_greatest : (delay : ℕ) (all : List Step) (best : Step) → IsGreatest delay all best → owed_at delay all ≡ best.price.0
unfolding owed_at
owed_at_greatest delay all best b =
    ap (λ (o : Option Step). option_map_or (λ step. step.price.0) o 0) (find_agree (is_owed_at delay all) (λ step. eqb step.from best.from) all (is_owed_same delay all best b) ∙ b.first)

owed_at_none : (delay : ℕ) (all : List Step) → All (λ step. delay < step.from) all → owed_at delay all ≡ 0
unfolding owed_at
owed_at_none delay all h =
    ap (λ (o : Option Step). option_map_or (λ step. step.price.0) o 0) (find_none (is_owed_at delay all) all (All-weaker (λ (o : Step). delay < o.from) (λ o. is_owed_at delay all o ≡ false) (λ o k. and_left (leb o.from delay) (list_all (λ (other : Step). not (leb other.from delay) || leb other.from o.from) all) (lt-leb o.from delay k)) all h))

-- ---- where no two thresholds are the same
pairs_head : (x : Step) (xs : List Step) → AreApart (x ∷ xs) → All (λ y. eqb x.from y.from ≡ false) xs
pairs_head x xs h = λ k d below. h 0 (suc k) d (omega arith) (omega arith)

pairs_tail : (x : Step) (xs : List Step) → AreApart (x ∷ xs) → AreApart xs
pairs_tail x xs h = λ i j d less below. h (suc i) (suc j) d (omega arith) (omega arith)

first_or_later : (x : Step) (xs : List Step) (y : Step) → Contains (x ∷ xs) y → (x ≡ y) ⊎ Contains xs y
first_or_later x xs y (zero, below, is) = inl is
first_or_later x xs y (suc k, below, is) = inr (k, omega arith, is)

find_apart : (all : List Step) (best : Step) → AreApart all → Contains all best → find (λ other. eqb other.from best.from) all ≡ Some best
find_apart [] best apart (k, below, is) = absurd (omega arith)
find_apart (x ∷ xs) best apart within =
    elim (first_or_later x xs best within) [
      | inl e ↦ rw (eq-eqb x.from best.from (ap (λ (o : Step). o.from) e)) (ap Some e)
      | inr later ↦
          rw (All-contains (λ (y : Step). eqb x.from y.from ≡ false) xs best (pairs_head x xs apart) later) (find_apart xs best (pairs_tail x xs apart) later)
    ]

-- what is owed is a price in its range, and nothing is owed to passengers who are in time
owed_or : (o : Option Step) → ForSome o IsStep → IsPrice (option_map_or (λ step. step.price.0) o 0)
owed_or None h = omega arith
owed_or (Some step) h = (h step refl).price

pub owed_within : (delay : ℕ) (all : List Step) → All IsStep all → IsPrice (owed_at delay all)
unfolding owed_at
owed_within delay all h = owed_or (find (is_owed_at delay all) all) (λ step e. All-contains IsStep all step h (Contains-find (is_owed_at delay all) all step e))

pub owed_in_time : (all : List Step) → All IsStep all → owed_at 0 all ≡ 0
owed_in_time all h = owed_at_none 0 all (All-weaker IsStep (λ step. 0 < step.from) (λ step is. omega (arith, is.threshold.least)) all h)

-- ---- steps in order
-- what holds of each step holds of what is owed
all_owed : (P : Step → Type 0) (all : List Step) (steps : List Step) → AreSteps all steps → All P steps → All P all
all_owed P all steps are h = All-permutation P steps all (IsPermutation-sym all steps are.same) h

step_within : (all : List Step) (steps : List Step) → AreSteps all steps → (k : ℕ) (d : Step) → k < length steps → Contains all (get_or steps k d)
step_within all steps are k d below =
    All-get_or (Contains all) steps k d below (All-permutation (Contains all) all steps are.same (All-contains_itself all))

pub none_reached : (all : List Step) (steps : List Step) (delay : ℕ) → AreSteps all steps → AllWithin (λ step. leb step.from delay ≡ false) steps 0 (length steps) → owed_at delay all ≡ 0
none_reached all steps delay are beyond =
    owed_at_none delay all (all_owed (λ (o : Step). delay < o.from) all steps are (λ k d below. leb-false (get_or steps k d).from delay (beyond k d (omega arith) below)))

pub last_reached : (all : List Step) (steps : List Step) (delay k : ℕ) (d : Step) → AreSteps all steps → k < length steps → AllWithin (λ step. leb step.from delay ≡ true) steps 0 (k + 1) → AllWithin (λ step. leb step.from delay ≡ false) steps (k + 1) (length steps) → owed_at delay all ≡ (get_or steps k d).price.0
last_reached all steps delay k d are below reached beyond =
    let best = get_or steps k d in
    let greatest : All (λ other. other.from ≤ delay → other.from ≤ best.from) all
    = all_owed (λ (o : Step). o.from ≤ delay → o.from ≤ best.from) all steps are (λ i e within reach. ⊎_elim (λ (before : i < k + 1). subst (λ (other : Step). other.from ≤ best.from) (get_or_default steps i d e within) (are.rising i k d (omega arith) below)) (λ (after : k + 1 ≤ i). let past = leb-false (get_or steps i e).from delay (beyond i e after within) in absurd (omega arith)) (cases_lt i (k + 1))) in
    owed_at_greatest delay all best (record {
      reached = leb-true best.from delay (reached k d (omega arith) (omega arith));
      greatest = greatest;
      first = find_apart all best are.apart (step_within all steps are k d below);
    })

-- The legs of an aircraft in their order.
use Rattle.std.proofs.Common.{◌≡◌, ℕ, zero, suc, ◌<◌, ◌⊎◌, inl, inr, Bool, true, false, List, [], ◌∷◌, ◌++◌, length, refl, sym, ap, subst, ◌∙◌, arith}
use Rattle.std.specs.Prelude.{filter, fold}
use Rattle.std.specs.List.{All, AllPairs, Contains}
use Rattle.std.proofs.lemmas.Bool.{true≢false, cases_Bool, cases_order, eqb-true}
use Rattle.std.proofs.lemmas.List.{drop_at}
use Rattle.std.proofs.lemmas.List.Elements.{All-nil, All-cons, All-append, All-filter, All-weaker, All-drop, filter_passes, filter-append, Contains-append_left, Contains-append_right}
use Rattle.std.proofs.lemmas.List.Kept.{AllPairs-cons, AllPairs-filter}
use Rattle.std.proofs.lemmas.List.Sums.{fold-append}
use Rattle.desk_data.specs.Situation.{Situation, legs_of}
use Rattle.desk_data.specs.PlanRows.{PlanRows}
use Rattle.desk_rules.specs.Numbers.{numbers}
use Rattle.desk_rules.specs.Rotations.{dep, precedes}
use Rattle.desk_rules.specs.Maintenance.{flies}
use Rattle.desk_rules.specs.Words.{Flies, Precedes}
use Rattle.desk_rules.proofs.RotationLaws.{precedes-holds, precedes-from}
use Rattle.desk_rules.proofs.MaintenanceLaws.{flies-holds, flies-from, dep-is}
use Rattle.desk_model.specs.Push.{with_leg, rotation}
use Rattle.desk_data.proofs.PathOrder.{pairs_head, pairs_tail, pairs_nil, pairs_append}

-- ---- the order on an aircraft

-- one aircraft flies a leg
pub flown_once : (P : PlanRows) (x p q d e : ℕ) → Flies P x p d → Flies P x q e → p ≡ q
flown_once P x p q d e first second =
    let is : flies P q x ≡ true = flies-from P q x e second in
    let there = rw first at is in
    eqb-true p q there

order_trans : (x y z a b c d : ℕ) → b ≡ c → (a < b) ⊎ ((a ≡ b) × (x < y)) → (c < d) ⊎ ((c ≡ d) × (y < z)) → (a < d) ⊎ ((a ≡ d) × (x < z))
order_trans x y z a b c d mid (inl first) (inl second) = inl (omega (arith, first, second, mid))
order_trans x y z a b c d mid (inl first) (inr second) = let e = second.0 in inl (omega (arith, first, e, mid))
order_trans x y z a b c d mid (inr first) (inl second) = let e = first.0 in inl (omega (arith, e, second, mid))
order_trans x y z a b c d mid (inr first) (inr second) =
    let e = first.0 in
    let f = second.0 in
    let g = first.1 in
    let h = second.1 in
    inr (omega (arith, e, f, mid), omega (arith, g, h))

order_itself : (x a b : ℕ) → a ≡ b → (a < b) ⊎ ((a ≡ b) × (x < x)) → ⊥
order_itself x a b same (inl less) = omega (arith, same, less)
order_itself x a b same (inr less) = let l = less.1 in omega (arith, l)

pub precedes-trans : (P : PlanRows) (x y z : ℕ) → Precedes P x y → Precedes P y z → Precedes P x z
precedes-trans P x y z a b =
    let plane : a.plane ≡ b.plane = flown_once P y a.plane b.plane a.later b.dep a.second b.first in
    let one : dep P y ≡ a.later = dep-is P a.plane y a.later a.second in
    let two : dep P y ≡ b.dep = dep-is P b.plane y b.dep b.first in
    let mid : a.later ≡ b.dep = sym one ∙ two in
    record {
      plane = b.plane;
      dep = a.dep;
      later = b.later;
      first = subst (λ (p : ℕ). Flies P x p a.dep) plane a.first;
      second = b.second;
      order = order_trans x y z a.dep a.later b.dep b.later mid a.order b.order;
    }

pub precedes-itself : (P : PlanRows) (x : ℕ) → Precedes P x x → ⊥
precedes-itself P x a =
    let one : dep P x ≡ a.dep = dep-is P a.plane x a.dep a.first in
    let two : dep P x ≡ a.later = dep-is P a.plane x a.later a.second in
    let same : a.dep ≡ a.later = sym one ∙ two in
    order_itself x a.dep a.later same a.order

pub precedes-total : (P : PlanRows) (p x y d e : ℕ) → Flies P x p d → Flies P y p e → (x ≡ y → ⊥) → Precedes P x y ⊎ Precedes P y x
precedes-total P p x y d e first second different =
    elim (cases_order d e) [
      | inl same ↦ elim (cases_order x y) [
        | inl alike ↦ absurd (different alike)
        | inr rest ↦ elim rest [
          | inl less ↦ inl (record { plane = p; dep = d; later = e; first = first; second = second; order = inr (same, less) })
          | inr more ↦ inr (record { plane = p; dep = e; later = d; first = second; second = first; order = inr (sym same, more) })
        ]
      ]
      | inr rest ↦ elim rest [
        | inl less ↦ inl (record { plane = p; dep = d; later = e; first = first; second = second; order = inl less })
        | inr more ↦ inr (record { plane = p; dep = e; later = d; first = second; second = first; order = inl more })
      ]
    ]

-- ---- lists

pub Contains-cases : (y x : ℕ) (xs : List ℕ) → Contains (y ∷ xs) x → (y ≡ x) ⊎ Contains xs x
Contains-cases y x xs (zero, within, is) = inl is
Contains-cases y x xs (suc k, within, is) = inr (k, (let lt : k < length xs = omega arith in lt), is)

pub Contains-head : (x : ℕ) (xs : List ℕ) → Contains (x ∷ xs) x
Contains-head x xs = (0, (let lt : 0 < length (x ∷ xs) = omega arith in lt), refl)

pub Contains-tail : (y x : ℕ) (xs : List ℕ) → Contains xs x → Contains (y ∷ xs) x
Contains-tail y x xs (k, within, is) = (suc k, (let lt : suc k < length (y ∷ xs) = omega arith in lt), is)

pub Contains-filter : (p : ℕ → Bool) (xs : List ℕ) (x : ℕ) → Contains xs x → p x ≡ true → Contains (filter p xs) x
Contains-filter p [] x has passes = absurd (let lt = has.1 in omega (arith, lt))
Contains-filter p (y ∷ xs) x has passes =
    elim (Contains-cases y x xs has) [
      | inl same ↦ rw (subst (λ (k : ℕ). p k ≡ true) (sym same) passes) (subst (λ (k : ℕ). Contains (y ∷ filter p xs) k) same (Contains-head y (filter p xs)))
      | inr after ↦
          let more = Contains-filter p xs x after passes in
          elim (cases_Bool (p y)) [
            | inl front ↦ rw front (Contains-tail y x (filter p xs) more)
            | inr fails ↦ rw fails more
          ]
    ]

pub All-suffix : {X : Type 0} (P : X → Type 0) (xs ys : List X) → All P (xs ++ ys) → All P ys
All-suffix P xs ys all = subst (All P) (drop_at xs ys (length xs) refl) (All-drop P (length xs) (xs ++ ys) all)

pub pairs_across : {X : Type 0} (R : X → X → Type 0) (xs ys : List X) → AllPairs R (xs ++ ys) → All (λ x. All (R x) ys) xs
pairs_across R [] ys pairs = All-nil (λ x. All (R x) ys)
pairs_across R (x ∷ xs) ys pairs =
    All-cons (λ z. All (R z) ys) x xs (All-suffix (R x) xs ys (pairs_head R x (xs ++ ys) pairs)) (pairs_across R xs ys (pairs_tail R x (xs ++ ys) pairs))

pub pairs_after : {X : Type 0} (R : X → X → Type 0) (xs ys : List X) → AllPairs R (xs ++ ys) → AllPairs R ys
pairs_after R [] ys pairs = pairs
pairs_after R (x ∷ xs) ys pairs = pairs_after R xs ys (pairs_tail R x (xs ++ ys) pairs)

-- ---- the legs of an aircraft

with_leg-pairs : (P : PlanRows) (legs : List ℕ) (x : ℕ) → AllPairs (Precedes P) legs → AllPairs (Precedes P) (with_leg P legs x)
with_leg-pairs P legs x pairs =
    let before = filter (λ y. precedes P y x) legs in
    let after = filter (λ y. precedes P x y) legs in
    let all_after : All (Precedes P x) after = All-weaker (λ y. precedes P x y ≡ true) (Precedes P x) (λ y is. precedes-holds P x y is) after (filter_passes (λ y. precedes P x y) legs) in
    pairs_append (Precedes P) before (x ∷ after)
    (AllPairs-filter (Precedes P) (λ y. precedes P y x) legs pairs)
    (AllPairs-cons (Precedes P) x after all_after (AllPairs-filter (Precedes P) (λ y. precedes P x y) legs pairs))
    (All-weaker (λ y. precedes P y x ≡ true) (λ y. All (Precedes P y) (x ∷ after))
    (λ y is.
    let less = precedes-holds P y x is in
    All-cons (Precedes P y) x after less (All-weaker (Precedes P x) (Precedes P y) (λ z more. precedes-trans P y x z less more) after all_after))
    before (filter_passes (λ y. precedes P y x) legs))

-- the legs of an aircraft among the first k
record AreFirstLegs (P : PlanRows) (p k : ℕ) (legs : List ℕ) : Type 0 where
  ordered : AllPairs (Precedes P) legs
  flown : All (λ x. (x < k) × (flies P p x ≡ true)) legs
  each : (x : ℕ) → x < k → flies P p x ≡ true → Contains legs x

below_cases : (x k : ℕ) → x < suc k → (x < k) ⊎ (x ≡ k)
below_cases x k lt = grind arith

first_legs-more : (P : PlanRows) (p k : ℕ) (legs : List ℕ) → flies P p k ≡ true → AreFirstLegs P p k legs → AreFirstLegs P p (suc k) (with_leg P legs k)
first_legs-more P p k legs here is =
    let before = filter (λ y. precedes P y k) legs in
    let after = filter (λ y. precedes P k y) legs in
    let wide : All (λ x. (x < suc k) × (flies P p x ≡ true)) legs =
    All-weaker (λ x. (x < k) × (flies P p x ≡ true)) (λ x. (x < suc k) × (flies P p x ≡ true)) (λ x both. (let lt = both.0 in let l : x < suc k = omega (arith, lt) in l, both.1)) legs is.flown in
    let own : (k < suc k) × (flies P p k ≡ true) = (let l : k < suc k = omega arith in l, here) in
    record {
      ordered = with_leg-pairs P legs k is.ordered;
      flown = All-append (λ x. (x < suc k) × (flies P p x ≡ true)) before (k ∷ after)
          (All-filter (λ y. precedes P y k) (λ x. (x < suc k) × (flies P p x ≡ true)) legs wide)
          (All-cons (λ x. (x < suc k) × (flies P p x ≡ true)) k after own (All-filter (λ y. precedes P k y) (λ x. (x < suc k) × (flies P p x ≡ true)) legs wide));
      each = λ x lt flown. elim (below_cases x k lt) [
        | inr last ↦ subst (λ (j : ℕ). Contains (before ++ k ∷ after) j) (sym last) (Contains-append_right before (k ∷ after) k (Contains-head k after))
        | inl less ↦
            let has = is.each x less flown in
            elim (precedes-total P p x k (dep P x) (dep P k) (flies-holds P p x flown) (flies-holds P p k here) (λ e. omega (arith, e, less))) [
              | inl first ↦ Contains-append_left before (k ∷ after) x (Contains-filter (λ y. precedes P y k) legs x has (precedes-from P x k first))
              | inr second ↦ Contains-append_right before (k ∷ after) x (Contains-tail k x after (Contains-filter (λ y. precedes P k y) legs x has (precedes-from P k x second)))
            ]
      ];
    }

first_legs-same : (P : PlanRows) (p k : ℕ) (legs : List ℕ) → flies P p k ≡ false → AreFirstLegs P p k legs → AreFirstLegs P p (suc k) legs
first_legs-same P p k legs here is = record {
  ordered = is.ordered;
  flown = All-weaker (λ x. (x < k) × (flies P p x ≡ true)) (λ x. (x < suc k) × (flies P p x ≡ true)) (λ x both. (let lt = both.0 in let l : x < suc k = omega (arith, lt) in l, both.1)) legs is.flown;
  each = λ x lt flown. elim (below_cases x k lt) [
    | inl less ↦ is.each x less flown
    | inr last ↦ absurd (true≢false (sym (subst (λ (j : ℕ). flies P p j ≡ true) last flown) ∙ here))
  ];
}

first_legs : (P : PlanRows) (p k : ℕ) → AreFirstLegs P p k (fold (with_leg P) [] (filter (flies P p) (numbers k)))
first_legs P p zero = record { ordered = pairs_nil (Precedes P); flown = All-nil (λ x. (x < 0) × (flies P p x ≡ true)); each = λ x lt flown. absurd (omega (arith, lt)) }
first_legs P p (suc k) =
    let legs = fold (with_leg P) [] (filter (flies P p) (numbers k)) in
    let is = first_legs P p k in
    let parts : fold (with_leg P) [] (filter (flies P p) (numbers k ++ k ∷ [])) ≡ fold (with_leg P) legs (filter (flies P p) (k ∷ [])) =
    ap (fold (with_leg P) []) (filter-append (flies P p) (numbers k) (k ∷ [])) ∙ fold-append (with_leg P) [] (filter (flies P p) (numbers k)) (filter (flies P p) (k ∷ [])) in
    elim (cases_Bool (flies P p k)) [
      | inl here ↦ subst (AreFirstLegs P p (suc k)) (sym (parts ∙ rw here refl)) (first_legs-more P p k legs here is)
      | inr gone ↦ subst (AreFirstLegs P p (suc k)) (sym (parts ∙ rw gone refl)) (first_legs-same P p k legs gone is)
    ]

pub rotation-ordered : (I : Situation) (P : PlanRows) (p : ℕ) → AllPairs (Precedes P) (rotation I P p)
unfolding rotation
rotation-ordered I P p = (first_legs P p (legs_of I)).ordered

pub rotation-flown : (I : Situation) (P : PlanRows) (p : ℕ) → All (λ x. (x < legs_of I) × (flies P p x ≡ true)) (rotation I P p)
unfolding rotation
rotation-flown I P p = (first_legs P p (legs_of I)).flown

pub rotation-each : (I : Situation) (P : PlanRows) (p x : ℕ) → x < legs_of I → flies P p x ≡ true → Contains (rotation I P p) x
unfolding rotation
rotation-each I P p x lt flown = (first_legs P p (legs_of I)).each x lt flown

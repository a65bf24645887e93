-- The legs of an aircraft after some changes, and in their order.
use Rattle.std.proofs.Common.{◌≡◌, ◌≢◌, ℕ, suc, ◌<◌, ◌⊎◌, inl, inr, Bool, true, false, ◌||◌, eqb, List, [], ◌∷◌, ◌++◌, length, get_or, refl, sym, ap, subst, ◌∙◌, arith}
use Rattle.std.specs.Prelude.{filter}
use Rattle.std.specs.List.{All, AllPairs, Contains, insert, list_any}
use Rattle.std.specs.List.Sorted.{IsPermutation}
use Rattle.desk_units.specs.declared.numbers.Leg.{Leg}
use Rattle.std.proofs.lemmas.Bool.{true≢false, cases_Bool, eqb-true, eq-eqb, ne_eqb}
use Rattle.std.proofs.lemmas.List.{append-nil, length-map, get_or-map, get_or-set_other}
use Rattle.std.proofs.lemmas.List.Elements.{All-nil, All-cons, All-weaker, All-filter, All-contains, filter_passes}
use Rattle.std.proofs.lemmas.List.Sorted.{All-permutation, Contains-permutation, IsPermutation-insert, IsPermutation-map}
use Rattle.desk_data.specs.declared.row.Row.TheVariants.{Cancelled}
use Rattle.desk_data.specs.Situation.{Situation, legs_of}
use Rattle.desk_data.specs.PlanRows.{PlanRows, row_at}
use Rattle.desk_rules.specs.Rotations.{precedes}
use Rattle.desk_rules.specs.Maintenance.{flies, is_flown_by}
use Rattle.desk_rules.specs.Words.{Precedes}
use Rattle.desk_rules.proofs.RotationLaws.{precedes-holds}
use Rattle.desk_model.specs.Push.{rotation}
use Rattle.std.proofs.lemmas.List.Kept.{AllPairs-cons}
use Rattle.desk_data.proofs.PathOrder.{pairs_head, pairs_tail, pairs_nil}
use Rattle.desk_model.proofs.RotationOrder.{Contains-cases, Contains-head, Contains-tail, Contains-filter, precedes-trans, precedes-itself, rotation-ordered, rotation-flown, rotation-each}
use Rattle.step_laws.specs.Swapped.{legs_of_both}
use Rattle.near_draft.specs.declared.change.Change.{Change}
use Rattle.near_draft.specs.Drafts.{AreAllChanged, changed, drafted}
use Rattle.near_draft.specs.Legs.{AreLegsOf, IsAdded, numbers_of}
use Rattle.near_draft.proofs.ChangeLaws.{no_change}

-- ---- legs that are flown as before

-- whether leg x has a change
abbrev pub is_changed : List Change → ℕ → Bool
is_changed changes x = list_any (λ (change : Change). eqb change.leg.0 x) changes

or-none : (a b : Bool) → (a || b) ≡ false → (a ≡ false) × (b ≡ false)
or-none true b none = absurd cc
or-none false b none = (refl, none)

pub unchanged-row : (P : PlanRows) (changes : List Change) (x : ℕ) → is_changed changes x ≡ false → row_at (drafted P changes) x ≡ row_at P x
unchanged-row P [] x none = refl
unchanged-row P (change ∷ changes) x none =
    let parts = or-none (eqb change.leg.0 x) (is_changed changes x) none in
    unchanged-row (changed P change) changes x parts.1
    ∙ get_or-set_other P.rows change.leg.0 x change.row Cancelled (λ same. true≢false (sym (eq-eqb change.leg.0 x (sym same)) ∙ parts.0))

-- where it has one
pub record ChangedAt (changes : List Change) (x : ℕ) : Type 0 where
  pub place : ℕ
  pub within : place < length changes
  pub is : (get_or changes place no_change).leg.0 ≡ x

pub changed-at : (changes : List Change) (x : ℕ) → is_changed changes x ≡ true → ChangedAt changes x
changed-at [] x some = absurd cc
changed-at (change ∷ changes) x some =
    elim (cases_Bool (eqb change.leg.0 x)) [
      | inl here ↦ record { place = 0; within = omega arith; is = eqb-true change.leg.0 x here }
      | inr other ↦
          let rest : is_changed changes x ≡ true = rw other at some in
          let at = changed-at changes x rest in
          record { place = suc at.place; within = (let lt = at.within in omega (arith, lt)); is = at.is }
    ]

-- legs that have other rows are among some legs, if that of each change is that has another one
pub all-changed : (P : PlanRows) (changes : List Change) (legs : List ℕ) → ((j : ℕ) → j < length changes → (row_at P (get_or changes j no_change).leg.0 ≡ row_at (drafted P changes) (get_or changes j no_change).leg.0) ⊎ Contains legs (get_or changes j no_change).leg.0) → AreAllChanged P (drafted P changes) legs
all-changed P changes legs noted x =
    elim (cases_Bool (is_changed changes x)) [
      | inr none ↦ inl (sym (unchanged-row P changes x none))
      | inl some ↦
          let at = changed-at changes x some in
          subst (λ (y : ℕ). (row_at P y ≡ row_at (drafted P changes) y) ⊎ Contains legs y) at.is (noted at.place at.within)
    ]

-- the legs of an aircraft are those that it flew and still flies, and those with a change that it flies
module _ (I : Situation) (P : PlanRows) (changes : List Change) (p : ℕ) where
  abbrev Q : PlanRows
  Q = drafted P changes

  pub record AreFound (legs : List ℕ) : Type 0 where
    pub flown : All (λ z. (z < legs_of I) × (flies Q p z ≡ true)) legs
    pub kept : (z : ℕ) → Contains (filter (flies Q p) (rotation I P p)) z → Contains legs z
    pub come : (j : ℕ) → j < length changes → flies Q p (get_or changes j no_change).leg.0 ≡ true → Contains legs (get_or changes j no_change).leg.0

  pub found-legs : (legs : List ℕ) → AreFound legs → AreLegsOf I Q p legs
  found-legs legs are = record {
    flown = are.flown;
    each = λ z within flown. elim (cases_Bool (is_changed changes z)) [
      | inl some ↦
          let at = changed-at changes z some in
          subst (Contains legs) at.is (are.come at.place at.within (subst (λ (k : ℕ). flies Q p k ≡ true) (sym at.is) flown))
      | inr none ↦
          let before : flies P p z ≡ true = ap (is_flown_by p) (sym (unchanged-row P changes z none)) ∙ flown in
          are.kept z (Contains-filter (flies Q p) (rotation I P p) z (rotation-each I P p z within before) flown)
    ];
  }

-- ---- legs in their order

-- each leg comes before the next
ordered : (P : PlanRows) (legs : List ℕ) → ((k : ℕ) → suc k < length legs → precedes P (get_or legs k 0) (get_or legs (suc k) 0) ≡ true) → AllPairs (Precedes P) legs
ordered P [] next = pairs_nil (Precedes P)
ordered P (x ∷ []) next = AllPairs-cons (Precedes P) x [] (All-nil (Precedes P x)) (pairs_nil (Precedes P))
ordered P (x ∷ y ∷ legs) next =
    let rest = ordered P (y ∷ legs) (λ k lt. next (suc k) (omega (arith, lt))) in
    let first : Precedes P x y = precedes-holds P x y (next 0 (omega arith)) in
    AllPairs-cons (Precedes P) x (y ∷ legs)
    (All-cons (Precedes P x) y legs first (All-weaker (Precedes P y) (Precedes P x) (λ z more. precedes-trans P x y z first more) legs (pairs_head (Precedes P) y legs rest)))
    rest

-- two lists in order with the same legs are one
same_first : (P : PlanRows) (x y : ℕ) (xs ys : List ℕ) → All (Precedes P x) xs → All (Precedes P y) ys → Contains (y ∷ ys) x → Contains (x ∷ xs) y → x ≡ y
same_first P x y xs ys a b to back =
    elim (Contains-cases y x ys to) [
      | inl same ↦ sym same
      | inr after_y ↦ elim (Contains-cases x y xs back) [
        | inl same ↦ same
        | inr after_x ↦ absurd (precedes-itself P x (precedes-trans P x y x (All-contains (Precedes P x) xs y a after_x) (All-contains (Precedes P y) ys x b after_y)))
      ]
    ]

after_first : (P : PlanRows) (x y z : ℕ) (xs ys : List ℕ) → x ≡ y → All (Precedes P x) xs → Contains (y ∷ ys) z → Contains xs z → Contains ys z
after_first P x y z xs ys same a to has =
    elim (Contains-cases y z ys to) [
      | inl first ↦ absurd (precedes-itself P x (subst (Precedes P x) (sym (same ∙ first)) (All-contains (Precedes P x) xs z a has)))
      | inr later ↦ later
    ]

same_legs : (P : PlanRows) (xs ys : List ℕ) → AllPairs (Precedes P) xs → AllPairs (Precedes P) ys → ((z : ℕ) → Contains xs z → Contains ys z) → ((z : ℕ) → Contains ys z → Contains xs z) → xs ≡ ys
same_legs P [] [] a b to back = refl
same_legs P [] (y ∷ ys) a b to back = absurd (let lt = (back y (Contains-head y ys)).1 in omega (arith, lt))
same_legs P (x ∷ xs) [] a b to back = absurd (let lt = (to x (Contains-head x xs)).1 in omega (arith, lt))
same_legs P (x ∷ xs) (y ∷ ys) a b to back =
    let first_x = pairs_head (Precedes P) x xs a in
    let first_y = pairs_head (Precedes P) y ys b in
    let same : x ≡ y = same_first P x y xs ys first_x first_y (to x (Contains-head x xs)) (back y (Contains-head y ys)) in
    let rest : xs ≡ ys = same_legs P xs ys (pairs_tail (Precedes P) x xs a) (pairs_tail (Precedes P) y ys b)
    (λ z has. after_first P x y z xs ys same first_x (to z (Contains-tail x z xs has)) has)
    (λ z has. after_first P y x z ys xs (sym same) first_y (back z (Contains-tail y z ys has)) has) in
    ap (λ (k : ℕ). k ∷ xs) same ∙ ap (λ (zs : List ℕ). y ∷ zs) rest

pub in-order : (I : Situation) (P : PlanRows) (p : ℕ) (legs : List ℕ) → AreLegsOf I P p legs → ((k : ℕ) → suc k < length legs → precedes P (get_or legs k 0) (get_or legs (suc k) 0) ≡ true) → legs ≡ rotation I P p
in-order I P p legs are next =
    same_legs P legs (rotation I P p) (ordered P legs next) (rotation-ordered I P p)
    (λ z has. let one = All-contains (λ x. (x < legs_of I) × (flies P p x ≡ true)) legs z are.flown has in rotation-each I P p z one.0 one.1)
    (λ z has. let one = All-contains (λ x. (x < legs_of I) × (flies P p x ≡ true)) (rotation I P p) z (rotation-flown I P p) has in are.each z one.0 one.1)

-- those that stand in their order are the legs of the aircraft
pub rotation-legs : (I : Situation) (P : PlanRows) (p : ℕ) (legs : List ℕ) → legs ≡ rotation I P p → AreLegsOf I P p legs
rotation-legs I P p legs is = subst (AreLegsOf I P p) (sym is) (record { flown = rotation-flown I P p; each = rotation-each I P p })

-- ---- the legs of two aircraft

pub both-one : (I : Situation) (P : PlanRows) (p q : ℕ) → q ≡ p → rotation I P p ≡ legs_of_both I P p q
both-one I P p q same = rw (eq-eqb q p same) (sym (append-nil (rotation I P p)))

pub both-two : (I : Situation) (P : PlanRows) (p q : ℕ) → q ≢ p → rotation I P p ++ rotation I P q ≡ legs_of_both I P p q
both-two I P p q other = rw (ne_eqb q p other) refl

-- the numbers of two lists, one behind the other
pub numbers-both : (legs others : List Leg) → numbers_of (legs ++ others) ≡ numbers_of legs ++ numbers_of others
numbers-both [] others = refl
numbers-both (leg ∷ legs) others = ap (λ (xs : List ℕ). leg.0 ∷ xs) (numbers-both legs others)

-- ---- legs that come

-- a leg that an aircraft flies is put among others
pub added-new : (I : Situation) (P : PlanRows) (p : ℕ) (old new : List Leg) (place : ℕ) (leg : Leg) → new ≡ insert old place leg → leg.0 < legs_of I → flies P p leg.0 ≡ true → IsAdded I P p leg.0 (numbers_of old) (numbers_of new)
added-new I P p old new place leg is within flown =
    let S : ℕ → Type 0 = λ z. (z < legs_of I) × (flies P p z ≡ true) in
    let all : IsPermutation (leg ∷ old) new = subst (λ (legs : List Leg). IsPermutation (leg ∷ old) legs) (sym is) (IsPermutation-insert old place leg) in
    let same : IsPermutation (leg.0 ∷ numbers_of old) (numbers_of new) = IsPermutation-map (λ (l : Leg). l.0) (leg ∷ old) new all in
    record {
      flown = λ each. All-permutation S (leg.0 ∷ numbers_of old) (numbers_of new) same (All-cons S leg.0 (numbers_of old) (within, flown) each);
      kept = λ z has. Contains-permutation (leg.0 ∷ numbers_of old) (numbers_of new) z same (Contains-tail leg.0 z (numbers_of old) has);
      there = λ holds. Contains-permutation (leg.0 ∷ numbers_of old) (numbers_of new) leg.0 same (Contains-head leg.0 (numbers_of old));
    }

-- a leg is put behind others
pub pushed-kept : (old : List Leg) (leg : Leg) (z : ℕ) → Contains (numbers_of old) z → Contains (numbers_of (old ++ leg ∷ [])) z
pushed-kept [] leg z has = absurd (let lt = has.1 in omega (arith, lt))
pushed-kept (first ∷ old) leg z has =
    elim (Contains-cases first.0 z (numbers_of old) has) [
      | inl same ↦ subst (Contains (numbers_of (first ∷ old ++ leg ∷ []))) same (Contains-head first.0 (numbers_of (old ++ leg ∷ [])))
      | inr later ↦ Contains-tail first.0 z (numbers_of (old ++ leg ∷ [])) (pushed-kept old leg z later)
    ]

pub pushed-there : (old : List Leg) (leg : Leg) → Contains (numbers_of (old ++ leg ∷ [])) leg.0
pushed-there [] leg = Contains-head leg.0 []
pushed-there (first ∷ old) leg = Contains-tail first.0 leg.0 (numbers_of (old ++ leg ∷ [])) (pushed-there old leg)

-- legs that an aircraft flies are legs of the day
pub numbers-within : (I : Situation) (P : PlanRows) (p : ℕ) (legs : List Leg) → All (λ z. (z < legs_of I) × (flies P p z ≡ true)) (numbers_of legs) → All (λ (leg : Leg). leg.0 < legs_of I) legs
numbers-within I P p legs all = λ k d lt.
    let long : k < length (numbers_of legs) = rw (length-map legs (λ (leg : Leg). leg.0)) lt in
    subst (λ (x : ℕ). x < legs_of I) (get_or-map (λ (leg : Leg). leg.0) legs k d 0 lt) (all k 0 long).0

-- legs of a rotation that are still flown
pub still-flown : (I : Situation) (P Q : PlanRows) (p : ℕ) → All (λ z. (z < legs_of I) × (flies Q p z ≡ true)) (filter (flies Q p) (rotation I P p))
still-flown I P Q p = λ k d lt. (
  (All-filter (flies Q p) (λ z. (z < legs_of I) × (flies P p z ≡ true)) (rotation I P p) (rotation-flown I P p) k d lt).0,
  filter_passes (flies Q p) (rotation I P p) k d lt,
)

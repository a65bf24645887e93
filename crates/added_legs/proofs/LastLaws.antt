-- The last leg of an aircraft that passes a test, with its added leg: the last before a moment, and the last before another leg.
use Rattle.std.proofs.Common.{◌≡◌, ℕ, ◌+◌, ◌-◌, ◌<◌, ◌≤◌, ◌⊎◌, inl, inr, Bool, true, false, ◌&&◌, cond, ltb, List, length, refl, sym, ap, subst, ◌∙◌, arith}
use Rattle.std.specs.Prelude.{Option, Some, None}
use Rattle.std.proofs.lemmas.Bool.{cases_Bool, cases_lt, cases_eq, and_parts, true≢false, leb-true, leb-false, eq-eqb, ne_eqb}
use Rattle.std.proofs.lemmas.Bool.Decides.{nat_tests}
use Rattle.desk_units.specs.declared.numbers.Leg.{Leg}
use Rattle.desk_units.specs.declared.numbers.Plane.{Plane}
use Rattle.desk_units.specs.declared.numbers.Minute.{Minute}
use Rattle.desk_data.specs.declared.row.Row.{Row}
use Rattle.desk_data.specs.declared.row.Row.TheVariants.{Flown, Cancelled}
use Rattle.desk_data.specs.Situation.{Situation, legs_of, planes_of}
use Rattle.desk_data.specs.PlanRows.{PlanRows, row_at}
use Rattle.desk_rules.specs.Rotations.{departure, dep, comes_before, precedes}
use Rattle.desk_rules.specs.Maintenance.{is_flown_by}
use Rattle.desk_rules.specs.Least.{leg, plane}
use Rattle.plan_reads.specs.Last.{IsLastOf}
use Rattle.plan_reads.proofs.OrderLaws.{not_both}
use Rattle.added_legs.specs.declared.added.Added.{Added}
use Rattle.added_legs.specs.Merged.{added_for, row_for, merged_plan}
use Rattle.added_legs.proofs.MergedLaws.{old_row, new_row}
use Rattle.added_legs.specs.Stands.{is_after}

-- ---- rows of one aircraft

-- a leg comes after one that departs no earlier than the last before it
not_after : (l z k : ℕ) (p : Plane) (da : Minute) (rl rz : Row) → is_flown_by p.0 rl ≡ true → is_flown_by p.0 rz ≡ true → comes_before l rl z rz ≡ false → departure rl ≤ da.0 → z < k → comes_before k (Flown p da) z rz ≡ false
not_after l z k p da (Flown a d) (Flown b e) on off none le lt = grind (arith, nat_tests)
not_after l z k p da (Flown a d) Cancelled on off none le lt = refl
not_after l z k p da Cancelled rz on off none le lt = absurd (true≢false (sym on))

not_before : (l k : ℕ) (p : Plane) (da : Minute) (rl : Row) → da.0 < departure rl → comes_before l rl k (Flown p da) ≡ false
not_before l k p da (Flown a d) lt = grind (arith, nat_tests)
not_before l k p da Cancelled lt = refl

not_itself : (k : ℕ) (p : Plane) (da : Minute) → comes_before k (Flown p da) k (Flown p da) ≡ false
not_itself k p da = grind (arith, nat_tests)

not_late : (P : PlanRows) (last : Option Leg) (at : ℕ) → is_after P last at ≡ false → (l : Leg) × (last ≡ Some l) × (at < dep P l.0)
not_late P None at late = absurd (true≢false late)
not_late P (Some l) at late = (l, refl, leb-false (dep P l.0) at late)

-- ---- the legs of the merged plan

pub is_old_or_new : (n m x : ℕ) → x < n + m → (x < n) ⊎ ((q : ℕ) × (q < m) × (x ≡ n + q))
is_old_or_new n m x lt =
    elim (cases_lt x n) [
      | inl old ↦ inl old
      | inr new ↦ inr (x - n, omega (arith, lt, new), omega (arith, new))
    ]

-- an added leg of another aircraft is not flown by this one
pub not_own : (p q : ℕ) (o : Option Added) → (q ≡ p → o ≡ None) → is_flown_by p (row_for q o) ≡ false
not_own p q None other = refl
not_own p q (Some a) other = ne_eqb q p (λ same. (let none : Some a ≡ None = other same in absurd cc))

-- ---- the last of the first n legs that pass a test

pub record IsLastWith (T : ℕ → Row → Bool) (R : PlanRows) (n x : ℕ) : Type 0 where
  pub within : x < n
  pub passes : T x (row_at R x) ≡ true
  pub last : (z : ℕ) → z < n → T z (row_at R z) ≡ true → precedes R x z ≡ false

abbrev pub IsLastIn : (ℕ → Row → Bool) → PlanRows → ℕ → Option Leg → Type 0
IsLastIn T R n None = (x : ℕ) → x < n → T x (row_at R x) ≡ false
IsLastIn T R n (Some l) = IsLastWith T R n l.0

last_within : (T : ℕ → Row → Bool) (R : PlanRows) (n : ℕ) (last : Option Leg) (l : Leg) → IsLastIn T R n last → last ≡ Some l → l.0 < n
last_within T R n None l h is = absurd cc
last_within T R n (Some k) l h is = let same : k ≡ l = cc in subst (λ (x : Leg). x.0 < n) same h.within

-- with an added leg of aircraft p: it is the last, where it passes the test and comes after the last of the others
abbrev pub with_added : (ℕ → Row → Bool) → PlanRows → ℕ → ℕ → Option Leg → Option Added → Option Leg
with_added T P n p last None = last
with_added T P n p last (Some a) = cond (T (n + p) (Flown (plane p) a.dep) && is_after P last a.dep.0) (Some (leg (n + p))) last

module _ (I : Situation) (P : PlanRows) (A : List Added) (all : length P.rows ≡ legs_of I) where
  pub row_old : (x : ℕ) → x < legs_of I → row_at (merged_plan I P A) x ≡ row_at P x
  row_old x lt = old_row I P A x (omega (arith, all, lt))

  pub precedes_old : (x y : ℕ) → x < legs_of I → y < legs_of I → precedes (merged_plan I P A) x y ≡ precedes P x y
  precedes_old x y lx ly =
      ap (λ (r : Row). comes_before x r y (row_at (merged_plan I P A) y)) (row_old x lx)
      ∙ ap (λ (r : Row). comes_before x (row_at P x) y r) (row_old y ly)

  module _ (p : ℕ) (T : ℕ → Row → Bool) (own : (z : ℕ) (r : Row) → T z r ≡ true → is_flown_by p r ≡ true) where
    passes_old : (x : ℕ) → x < legs_of I → T x (row_at (merged_plan I P A) x) ≡ T x (row_at P x)
    passes_old x lt = ap (T x) (row_old x lt)

    -- an added leg passes only if it is the aircraft's
    passes_own : (q : ℕ) → q < planes_of I → T (legs_of I + q) (row_at (merged_plan I P A) (legs_of I + q)) ≡ true → (q ≡ p → added_for A q ≡ None) → ⊥
    passes_own q lt passes other =
        not_both (is_flown_by p (row_for q (added_for A q)))
        (own (legs_of I + q) (row_for q (added_for A q)) (sym (ap (T (legs_of I + q)) (new_row I P A q all lt)) ∙ passes))
        (not_own p q (added_for A q) other)

    -- the legs of the plan alone, where those that are added come before the last of them
    old_last : (last : Option Leg) → ((q : ℕ) → q < planes_of I → T (legs_of I + q) (row_at (merged_plan I P A) (legs_of I + q)) ≡ true → (l : Leg) × (last ≡ Some l) × (precedes (merged_plan I P A) l.0 (legs_of I + q) ≡ false)) → IsLastIn T P (legs_of I) last → IsLastIn T (merged_plan I P A) (legs_of I + planes_of I) last
    old_last None new h = λ x lt. elim (is_old_or_new (legs_of I) (planes_of I) x lt) [
      | inl old ↦ passes_old x old ∙ h x old
      | inr one ↦
          subst (λ (y : ℕ). T y (row_at (merged_plan I P A) y) ≡ false) (sym one.2)
          (elim (cases_Bool (T (legs_of I + one.0) (row_at (merged_plan I P A) (legs_of I + one.0)))) [
            | inr off ↦ off
            | inl on ↦ let some = new one.0 one.1 on in (let is : None ≡ Some some.0 = some.1 in absurd cc)
          ])
    ]
    old_last (Some l) new h = record {
      within = omega (arith, h.within);
      passes = passes_old l.0 h.within ∙ h.passes;
      last = λ z lt passes. elim (is_old_or_new (legs_of I) (planes_of I) z lt) [
        | inl old ↦ precedes_old l.0 z h.within old ∙ h.last z old (sym (passes_old z old) ∙ passes)
        | inr one ↦
            let some = new one.0 one.1 (subst (λ (y : ℕ). T y (row_at (merged_plan I P A) y) ≡ true) one.2 passes) in
            let same : l ≡ some.0 = (let is : Some l ≡ Some some.0 = some.1 in cc) in
            subst (λ (y : ℕ). precedes (merged_plan I P A) l.0 y ≡ false) (sym one.2)
            (subst (λ (k : Leg). precedes (merged_plan I P A) k.0 (legs_of I + one.0) ≡ false) (sym same) some.2)
      ];
    }

    -- none of the plan's legs comes after the added one
    old_not_after : (a : Added) (last : Option Leg) (z : ℕ) → z < legs_of I → is_after P last a.dep.0 ≡ true → T z (row_at P z) ≡ true → IsLastIn T P (legs_of I) last → comes_before (legs_of I + p) (Flown (plane p) a.dep) z (row_at P z) ≡ false
    old_not_after a None z lt after passes h = absurd (not_both (T z (row_at P z)) passes (h z lt))
    old_not_after a (Some l) z lt after passes h =
        not_after l.0 z (legs_of I + p) (plane p) a.dep (row_at P l.0) (row_at P z)
        (own l.0 (row_at P l.0) h.passes) (own z (row_at P z) passes)
        (h.last z lt passes) (leb-true (departure (row_at P l.0)) a.dep.0 after) (omega (arith, lt))

    -- the added leg is the last
    new_last : (a : Added) (last : Option Leg) → p < planes_of I → added_for A p ≡ Some a → T (legs_of I + p) (Flown (plane p) a.dep) ≡ true → is_after P last a.dep.0 ≡ true → IsLastIn T P (legs_of I) last → IsLastWith T (merged_plan I P A) (legs_of I + planes_of I) (legs_of I + p)
    new_last a last within is passes after h =
        let row : row_at (merged_plan I P A) (legs_of I + p) ≡ Flown (plane p) a.dep = new_row I P A p all within ∙ ap (row_for p) is in
        record {
          within = omega (arith, within);
          passes = ap (T (legs_of I + p)) row ∙ passes;
          last = λ z lt also. elim (is_old_or_new (legs_of I) (planes_of I) z lt) [
            | inl old ↦
                ap (λ (r : Row). comes_before (legs_of I + p) r z (row_at (merged_plan I P A) z)) row
                ∙ ap (λ (r : Row). comes_before (legs_of I + p) (Flown (plane p) a.dep) z r) (row_old z old)
                ∙ old_not_after a last z old after (sym (passes_old z old) ∙ also) h
            | inr one ↦ elim (cases_eq one.0 p) [
              | inl same ↦
                  subst (λ (y : ℕ). precedes (merged_plan I P A) (legs_of I + p) y ≡ false) (sym (one.2 ∙ ap (λ (q : ℕ). legs_of I + q) same))
                  (ap (λ (r : Row). comes_before (legs_of I + p) r (legs_of I + p) r) row ∙ not_itself (legs_of I + p) (plane p) a.dep)
              | inr apart ↦ absurd (passes_own one.0 one.1 (subst (λ (y : ℕ). T y (row_at (merged_plan I P A) y) ≡ true) one.2 also) (λ same. absurd (apart same)))
            ]
          ];
        }

    -- the added leg does not pass, or comes before the last leg
    not_last : (last : Option Leg) (a : Added) → p < planes_of I → added_for A p ≡ Some a → (T (legs_of I + p) (Flown (plane p) a.dep) && is_after P last a.dep.0) ≡ false → IsLastIn T P (legs_of I) last → T (legs_of I + p) (row_at (merged_plan I P A) (legs_of I + p)) ≡ true → (l : Leg) × (last ≡ Some l) × (precedes (merged_plan I P A) l.0 (legs_of I + p) ≡ false)
    not_last last a within is test h passes =
        let row : row_at (merged_plan I P A) (legs_of I + p) ≡ Flown (plane p) a.dep = new_row I P A p all within ∙ ap (row_for p) is in
        let soon : T (legs_of I + p) (Flown (plane p) a.dep) ≡ true = sym (ap (T (legs_of I + p)) row) ∙ passes in
        let late : is_after P last a.dep.0 ≡ false = sym (ap (λ (b : Bool). b && is_after P last a.dep.0) soon) ∙ test in
        let some = not_late P last a.dep.0 late in
        let l = some.0 in
        let lt : l.0 < legs_of I = last_within T P (legs_of I) last l h some.1 in (
          l,
          some.1,
          ap (λ (r : Row). comes_before l.0 r (legs_of I + p) (row_at (merged_plan I P A) (legs_of I + p))) (row_old l.0 lt)
              ∙ ap (λ (r : Row). comes_before l.0 (row_at P l.0) (legs_of I + p) r) row
              ∙ not_before l.0 (legs_of I + p) (plane p) a.dep (row_at P l.0) some.2,
        )

    last_or_not : (last : Option Leg) (a : Added) (q : ℕ) → p < planes_of I → added_for A p ≡ Some a → (T (legs_of I + p) (Flown (plane p) a.dep) && is_after P last a.dep.0) ≡ false → IsLastIn T P (legs_of I) last → q < planes_of I → T (legs_of I + q) (row_at (merged_plan I P A) (legs_of I + q)) ≡ true → (q ≡ p) ⊎ (q ≡ p → ⊥) → (l : Leg) × (last ≡ Some l) × (precedes (merged_plan I P A) l.0 (legs_of I + q) ≡ false)
    last_or_not last a q within is test h lt passes (inl same) =
        subst (λ (k : ℕ). (l : Leg) × (last ≡ Some l) × (precedes (merged_plan I P A) l.0 (legs_of I + k) ≡ false)) (sym same)
        (not_last last a within is test h (subst (λ (k : ℕ). T (legs_of I + k) (row_at (merged_plan I P A) (legs_of I + k)) ≡ true) same passes))
    last_or_not last a q within is test h lt passes (inr apart) = absurd (passes_own q lt passes (λ same. absurd (apart same)))

    last_if : (last : Option Leg) (a : Added) (b : Bool) → p < planes_of I → added_for A p ≡ Some a → (T (legs_of I + p) (Flown (plane p) a.dep) && is_after P last a.dep.0) ≡ b → IsLastIn T P (legs_of I) last → IsLastIn T (merged_plan I P A) (legs_of I + planes_of I) (cond b (Some (leg (legs_of I + p))) last)
    last_if last a true within is test h =
        let parts = and_parts (T (legs_of I + p) (Flown (plane p) a.dep)) (is_after P last a.dep.0) test in
        new_last a last within is parts.0 parts.1 h
    last_if last a false within is test h =
        old_last last (λ q lt passes. last_or_not last a q within is test h lt passes (cases_eq q p)) h

    last_by : (last : Option Leg) (o : Option Added) → p < planes_of I → added_for A p ≡ o → IsLastIn T P (legs_of I) last → IsLastIn T (merged_plan I P A) (legs_of I + planes_of I) (with_added T P (legs_of I) p last o)
    last_by last None within is h =
        old_last last (λ q lt passes. absurd (passes_own q lt passes (λ same. ap (added_for A) same ∙ is))) h
    last_by last (Some a) within is h = last_if last a (T (legs_of I + p) (Flown (plane p) a.dep) && is_after P last a.dep.0) within is refl h

    pub last_with : (last : Option Leg) → p < planes_of I → IsLastIn T P (legs_of I) last → IsLastIn T (merged_plan I P A) (legs_of I + planes_of I) (with_added T P (legs_of I) p last (added_for A p))
    last_with last within h = last_by last (added_for A p) within refl h

-- ---- the last leg before a moment

abbrev early : ℕ → ℕ → ℕ → Row → Bool
early p at x r = is_flown_by p r && ltb (departure r) at

early_own : (p at z : ℕ) (r : Row) → early p at z r ≡ true → is_flown_by p r ≡ true
early_own p at z r h = (and_parts (is_flown_by p r) (ltb (departure r) at) h).0

early_in : (R : PlanRows) (p at n : ℕ) (last : Option Leg) → IsLastOf R p at n last → IsLastIn (early p at) R n last
early_in R p at n None h = h
early_in R p at n (Some l) h = record { within = h.within; passes = h.before; last = h.last }

early_out : (R : PlanRows) (p at n : ℕ) (last : Option Leg) → IsLastIn (early p at) R n last → IsLastOf R p at n last
early_out R p at n None h = h
early_out R p at n (Some l) h = record { within = h.within; before = h.passes; last = h.last }

-- the added leg of aircraft p is the last before a moment, where it departs before that and after the last of the plan
abbrev pub later : Situation → PlanRows → ℕ → ℕ → Option Leg → Option Added → Option Leg
later I P p at last None = last
later I P p at last (Some a) = cond (ltb a.dep.0 at && is_after P last a.dep.0) (Some (leg (legs_of I + p))) last

early_is : (I : Situation) (P : PlanRows) (p at : ℕ) (last : Option Leg) (o : Option Added) → with_added (early p at) P (legs_of I) p last o ≡ later I P p at last o
early_is I P p at last None = refl
early_is I P p at last (Some a) = ap (λ (b : Bool). cond ((b && ltb a.dep.0 at) && is_after P last a.dep.0) (Some (leg (legs_of I + p))) last) (eq-eqb p p refl)

pub last_before : (I : Situation) (P : PlanRows) (A : List Added) → length P.rows ≡ legs_of I → (p at : ℕ) (last : Option Leg) → p < planes_of I → IsLastOf P p at (legs_of I) last → IsLastOf (merged_plan I P A) p at (legs_of I + planes_of I) (later I P p at last (added_for A p))
last_before I P A all p at last within h =
    subst (λ (l : Option Leg). IsLastOf (merged_plan I P A) p at (legs_of I + planes_of I) l) (early_is I P p at last (added_for A p))
    (early_out (merged_plan I P A) p at (legs_of I + planes_of I) (with_added (early p at) P (legs_of I) p last (added_for A p))
    (last_with I P A all p (early p at) (early_own p at) last within (early_in P p at (legs_of I) last h)))

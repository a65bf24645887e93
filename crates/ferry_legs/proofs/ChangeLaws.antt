-- One more added leg, of an aircraft that has none and departs no leg of the plan later: all other legs keep the rules C4 to C7 as they did.
use Rattle.std.proofs.Common.{◌≡◌, ◌≢◌, ℕ, zero, suc, ◌+◌, ◌<◌, ◌≤◌, ◌⊎◌, inl, inr, Bool, true, false, not, ◌&&◌, ◌||◌, cond, eqb, ltb, leb, List, [], ◌∷◌, length, refl, sym, ap, subst, ◌∙◌, arith}
use Rattle.std.specs.Prelude.{Option, Some, None}
use Rattle.std.specs.List.{list_any}
use Rattle.std.specs.Option.{option_or}
use Rattle.std.proofs.lemmas.Bool.{cases_eq, and_left, and_right, eq-eqb, ne_eqb, eqb-true}
use Rattle.std.proofs.lemmas.Bool.Decides.{nat_tests}
use Rattle.std.proofs.lemmas.List.Folds.{find-append}
use Rattle.desk_units.specs.declared.numbers.Plane.{Plane}
use Rattle.desk_units.specs.declared.numbers.Minute.{Minute}
use Rattle.desk_data.specs.declared.info.LegInfo.{LegInfo}
use Rattle.desk_data.specs.declared.row.Row.{Row}
use Rattle.desk_data.specs.declared.row.Row.TheVariants.{Flown, Cancelled}
use Rattle.desk_data.specs.Situation.{Situation, legs_of, planes_of, leg_at, plane_at, spans}
use Rattle.desk_data.specs.PlanRows.{PlanRows, row_at}
use Rattle.desk_data.specs.Valid.{IsValid}
use Rattle.desk_rules.specs.Numbers.{each_below, none_below, implies}
use Rattle.desk_rules.specs.Rotations.{departure, dep, comes_before, precedes, is_leg}
use Rattle.desk_rules.specs.Rules.{meets_span, c4_range, c5_location, c6_ground_time, c7_service, keeps_c4, keeps_c5, keeps_c6, keeps_c7}
use Rattle.desk_rules.specs.Maintenance.{is_flown_by, flies}
use Rattle.added_legs.specs.declared.added.Added.{Added}
use Rattle.added_legs.specs.Ferried.{with_added}
use Rattle.added_legs.specs.Merged.{added_for, leg_for, row_for, merged_day, merged_plan}
use Rattle.added_legs.proofs.MergedLaws.{old_leg, new_leg, old_row, new_row, merged_legs}
use Rattle.added_legs.proofs.NoneLaws.{same_spans}
use Rattle.added_legs.proofs.LastLaws.{is_old_or_new, not_own}

-- ---- the longer list

or_nothing : {X : Type 0} (o : Option X) → option_or o None ≡ o
or_nothing None = refl
or_nothing (Some x) = refl

for_more : (A : List Added) (a : Added) (q : ℕ) → added_for (with_added A a) q ≡ option_or (added_for A q) (cond (eqb a.plane.0 q) (Some a) None)
unfolding added_for
for_more A a q = find-append (λ (b : Added). eqb b.plane.0 q) A (a ∷ [])

pub for_other : (A : List Added) (a : Added) (q : ℕ) → q ≢ a.plane.0 → added_for (with_added A a) q ≡ added_for A q
for_other A a q apart =
    for_more A a q
    ∙ ap (λ (b : Bool). option_or (added_for A q) (cond b (Some a) None)) (ne_eqb a.plane.0 q (λ same. apart (sym same)))
    ∙ or_nothing (added_for A q)

pub for_new : (A : List Added) (a : Added) → added_for A a.plane.0 ≡ None → added_for (with_added A a) a.plane.0 ≡ Some a
for_new A a alone =
    for_more A a a.plane.0
    ∙ ap (λ (o : Option Added). option_or o (cond (eqb a.plane.0 a.plane.0) (Some a) None)) alone
    ∙ ap (λ (b : Bool). cond b (Some a) None) (eq-eqb a.plane.0 a.plane.0 refl)

-- ---- tests of numbers

below_cases : (k n : ℕ) → k < suc n → (k < n) ⊎ (k ≡ n)
below_cases k n h = grind arith

each_within : (n : ℕ) (f g : ℕ → Bool) → ((k : ℕ) → k < n → f k ≡ g k) → each_below n f ≡ each_below n g
each_within zero f g same = refl
each_within (suc n) f g same =
    ap (λ (b : Bool). b && f n) (each_within n f g (λ k lt. same k (omega arith)))
    ∙ ap (λ (b : Bool). each_below n g && b) (same n (omega arith))

none_within : (n : ℕ) (f g : ℕ → Bool) → ((k : ℕ) → k < n → f k ≡ g k) → none_below n f ≡ none_below n g
none_within n f g same = each_within n (λ k. not (f k)) (λ k. not (g k)) (λ k lt. ap not (same k lt))

both_false : (a b : Bool) → a ≡ false → b ≡ false → a ≡ b
both_false a b x y = x ∙ sym y

-- where one test is never met, nothing is asked
not_asked : (a b c d : Bool) → a ≡ false → b ≡ false → implies a c ≡ implies b d
not_asked a b c d x y = ap (λ (t : Bool). implies t c) x ∙ sym (ap (λ (t : Bool). implies t d) y)

asked_alike : (a b c d : Bool) → a ≡ b → c ≡ d → implies a c ≡ implies b d
asked_alike a b c d x y = ap (λ (t : Bool). implies t c) x ∙ ap (implies b) y

and_alike : (a b c d : Bool) → a ≡ b → c ≡ d → (a && c) ≡ (b && d)
and_alike a b c d x y = ap (λ (t : Bool). t && c) x ∙ ap (λ (t : Bool). b && t) y

or_alike : (a c d : Bool) → c ≡ d → (a || c) ≡ (a || d)
or_alike a c d y = ap (λ (t : Bool). a || t) y

-- ---- the rows

-- a leg that departs no earlier than another of its aircraft, and has a greater number, does not come before it
late_row : (k y : ℕ) (p : Plane) (t : Minute) (q : Plane) (d : Minute) (b : Bool) → eqb p.0 q.0 ≡ b → y < k → (b ≡ true → d.0 ≤ t.0) → comes_before k (Flown p t) y (Flown q d) ≡ false
late_row k y p t q d true is lt late = let le = late refl in grind (arith, nat_tests)
late_row k y p t q d false is lt late = ap (λ (b : Bool). b && (ltb t.0 d.0 || (eqb t.0 d.0 && ltb k y))) is

later_row : (k y : ℕ) (p : Plane) (t : Minute) (r : Row) → y < k → (is_flown_by p.0 r ≡ true → departure r ≤ t.0) → comes_before k (Flown p t) y r ≡ false
later_row k y p t Cancelled lt late = refl
later_row k y p t (Flown q d) lt late = late_row k y p t q d (eqb p.0 q.0) refl lt (λ same. late (eq-eqb q.0 p.0 (sym (eqb-true p.0 q.0 same))))

other_row : (k y : ℕ) (p : Plane) (t : Minute) (r : Row) → is_flown_by p.0 r ≡ false → comes_before k (Flown p t) y r ≡ false
other_row k y p t Cancelled apart = refl
other_row k y p t (Flown q d) apart = grind (arith, nat_tests)

itself : (k : ℕ) (p : Plane) (t : Minute) → comes_before k (Flown p t) k (Flown p t) ≡ false
itself k p t = grind (arith, nat_tests)

module _ (I : Situation) (P : PlanRows) (A : List Added) (a : Added) (all : length P.rows ≡ legs_of I) (valid : IsValid I) (within : a.plane.0 < planes_of I) (alone : added_for A a.plane.0 ≡ None) (late : (y : ℕ) → y < legs_of I → flies P a.plane.0 y ≡ true → dep P y ≤ a.dep.0) where
  abbrev M : Situation
  M = merged_day I P A

  abbrev Q : PlanRows
  Q = merged_plan I P A

  abbrev N : Situation
  N = merged_day I P (with_added A a)

  abbrev R : PlanRows
  R = merged_plan I P (with_added A a)

  -- the number of all legs, and that of the one that is added
  abbrev count : ℕ
  count = legs_of I + planes_of I

  abbrev new : ℕ
  new = legs_of I + a.plane.0

  row_old : (B : List Added) (x : ℕ) → x < legs_of I → row_at (merged_plan I P B) x ≡ row_at P x
  row_old B x lt = old_row I P B x (omega (arith, all, lt))

  row_same : (x : ℕ) → x < count → x ≢ new → row_at R x ≡ row_at Q x
  row_same x lt apart =
      elim (is_old_or_new (legs_of I) (planes_of I) x lt) [
        | inl old ↦ row_old (with_added A a) x old ∙ sym (row_old A x old)
        | inr one ↦
            subst (λ (y : ℕ). row_at R y ≡ row_at Q y) (sym one.2)
            (new_row I P (with_added A a) one.0 all one.1
            ∙ ap (row_for one.0) (for_other A a one.0 (λ same. apart (one.2 ∙ ap (λ (q : ℕ). legs_of I + q) same)))
            ∙ sym (new_row I P A one.0 all one.1))
      ]

  leg_same : (x : ℕ) → x < count → x ≢ new → leg_at N x ≡ leg_at M x
  leg_same x lt apart =
      elim (is_old_or_new (legs_of I) (planes_of I) x lt) [
        | inl old ↦ old_leg I P (with_added A a) x old ∙ sym (old_leg I P A x old)
        | inr one ↦
            subst (λ (y : ℕ). leg_at N y ≡ leg_at M y) (sym one.2)
            (new_leg I P (with_added A a) one.0 one.1
            ∙ ap (leg_for I P one.0) (for_other A a one.0 (λ same. apart (one.2 ∙ ap (λ (q : ℕ). legs_of I + q) same)))
            ∙ sym (new_leg I P A one.0 one.1))
      ]

  row_is : row_at R new ≡ Flown a.plane a.dep
  row_is = new_row I P (with_added A a) a.plane.0 all within ∙ ap (row_for a.plane.0) (for_new A a alone)

  row_was : row_at Q new ≡ Cancelled
  row_was = new_row I P A a.plane.0 all within ∙ ap (row_for a.plane.0) alone

  -- it comes before none
  never_before : (y : ℕ) → y < count → precedes R new y ≡ false
  never_before y lt =
      elim (is_old_or_new (legs_of I) (planes_of I) y lt) [
        | inl old ↦
            ap (λ (r : Row). comes_before new r y (row_at R y)) row_is
            ∙ ap (λ (r : Row). comes_before new (Flown a.plane a.dep) y r) (row_old (with_added A a) y old)
            ∙ later_row new y a.plane a.dep (row_at P y) (omega (arith, old)) (late y old)
        | inr one ↦
            elim (cases_eq one.0 a.plane.0) [
              | inl same ↦
                  subst (λ (k : ℕ). precedes R new k ≡ false) (sym (one.2 ∙ ap (λ (q : ℕ). legs_of I + q) same))
                  (ap (λ (r : Row). comes_before new r new r) row_is ∙ itself new a.plane a.dep)
              | inr apart ↦
                  subst (λ (k : ℕ). precedes R new k ≡ false) (sym one.2)
                  (ap (λ (r : Row). comes_before new r (legs_of I + one.0) (row_at R (legs_of I + one.0))) row_is
                  ∙ ap (λ (r : Row). comes_before new (Flown a.plane a.dep) (legs_of I + one.0) r) (new_row I P (with_added A a) one.0 all one.1)
                  ∙ other_row new (legs_of I + one.0) a.plane a.dep (row_for one.0 (added_for (with_added A a) one.0)) (not_own a.plane.0 one.0 (added_for (with_added A a) one.0) (λ same. absurd (apart same))))
            ]
      ]

  never_was : (y : ℕ) → precedes Q new y ≡ false
  never_was y = ap (λ (r : Row). comes_before new r y (row_at Q y)) row_was

  precedes_same : (x y : ℕ) → x < count → y < count → y ≢ new → precedes R x y ≡ precedes Q x y
  precedes_same x y lx ly apart =
      elim (cases_eq x new) [
        | inl same ↦ subst (λ (k : ℕ). precedes R k y ≡ precedes Q k y) (sym same) (both_false (precedes R new y) (precedes Q new y) (never_before y ly) (never_was y))
        | inr other ↦
            ap (λ (r : Row). comes_before x r y (row_at R y)) (row_same x lx other)
            ∙ ap (λ (r : Row). comes_before x (row_at Q x) y r) (row_same y ly apart)
      ]

  between_same : (x y z : ℕ) → x < count → y < count → z < count → y ≢ new → (precedes R x z && precedes R z y) ≡ (precedes Q x z && precedes Q z y)
  between_same x y z lx ly lz apart =
      elim (cases_eq z new) [
        | inl same ↦
            subst (λ (k : ℕ). (precedes R x k && precedes R k y) ≡ (precedes Q x k && precedes Q k y)) (sym same)
            (both_false (precedes R x new && precedes R new y) (precedes Q x new && precedes Q new y)
            (and_right (precedes R x new) (precedes R new y) (never_before y ly)) (and_right (precedes Q x new) (precedes Q new y) (never_was y)))
        | inr other ↦ and_alike (precedes R x z) (precedes Q x z) (precedes R z y) (precedes Q z y) (precedes_same x z lx lz other) (precedes_same z y lz ly apart)
      ]

  -- the same over the numbers of all legs
  follows_in : PlanRows → ℕ → ℕ → Bool
  follows_in T x y = precedes T x y && none_below count (λ z. precedes T x z && precedes T z y)

  follows_same : (x y : ℕ) → x < count → y < count → y ≢ new → follows_in R x y ≡ follows_in Q x y
  unfolding follows_in
  follows_same x y lx ly apart =
      and_alike (precedes R x y) (precedes Q x y) (none_below count (λ z. precedes R x z && precedes R z y)) (none_below count (λ z. precedes Q x z && precedes Q z y))
      (precedes_same x y lx ly apart) (none_within count (λ z. precedes R x z && precedes R z y) (λ z. precedes Q x z && precedes Q z y) (λ z lz. between_same x y z lx ly lz apart))

  first_same : (y : ℕ) → y < count → y ≢ new → none_below count (λ x. precedes R x y) ≡ none_below count (λ x. precedes Q x y)
  first_same y ly apart = none_within count (λ x. precedes R x y) (λ x. precedes Q x y) (λ x lx. precedes_same x y lx ly apart)

  -- what is asked of the legs that leg y follows
  asked_same : (y : ℕ) (f g : ℕ → Bool) → y < count → y ≢ new → ((x : ℕ) → x < count → x ≢ new → f x ≡ g x) → each_below count (λ x. implies (follows_in R x y) (f x)) ≡ each_below count (λ x. implies (follows_in Q x y) (g x))
  unfolding follows_in
  asked_same y f g ly apart same =
      each_within count (λ x. implies (follows_in R x y) (f x)) (λ x. implies (follows_in Q x y) (g x)) (λ x lx.
      elim (cases_eq x new) [
        | inl it ↦
            subst (λ (k : ℕ). implies (follows_in R k y) (f k) ≡ implies (follows_in Q k y) (g k)) (sym it)
            (not_asked (follows_in R new y) (follows_in Q new y) (f new) (g new)
            (and_left (precedes R new y) (none_below count (λ z. precedes R new z && precedes R z y)) (never_before y ly))
            (and_left (precedes Q new y) (none_below count (λ z. precedes Q new z && precedes Q z y)) (never_was y)))
        | inr other ↦ asked_alike (follows_in R x y) (follows_in Q x y) (f x) (g x) (follows_same x y lx ly apart) (same x lx other)
      ])

  -- ---- the rules of another leg

  c5_in : Situation → PlanRows → ℕ → Row → Bool
  c5_in J T y (Flown q d) =
      (plane_at I q.0).surface
      || (implies (none_below count (λ x. precedes T x y)) (eqb (leg_at J y).origin.0 (plane_at I q.0).origin.0)
      && each_below count (λ x. implies (follows_in T x y) (eqb (leg_at J y).origin.0 (leg_at J x).dest.0)))
  c5_in J T y Cancelled = true

  c5_is : (B : List Added) (y : ℕ) (row : Row) → c5_location (merged_day I P B) (merged_plan I P B) y row ≡ c5_in (merged_day I P B) (merged_plan I P B) y row
  unfolding c5_in follows_in
  c5_is B y (Flown q d) =
      ap (λ (n : ℕ). (plane_at I q.0).surface
      || (implies (none_below n (λ x. precedes (merged_plan I P B) x y)) (eqb (leg_at (merged_day I P B) y).origin.0 (plane_at I q.0).origin.0)
      && each_below n (λ x. implies (precedes (merged_plan I P B) x y && none_below n (λ z. precedes (merged_plan I P B) x z && precedes (merged_plan I P B) z y)) (eqb (leg_at (merged_day I P B) y).origin.0 (leg_at (merged_day I P B) x).dest.0)))) (merged_legs I P B)
  c5_is B y Cancelled = refl

  c5_alike : (y : ℕ) (row : Row) → y < count → y ≢ new → c5_in N R y row ≡ c5_in M Q y row
  unfolding c5_in
  c5_alike y (Flown q d) ly apart =
      or_alike (plane_at I q.0).surface _ _
      (and_alike _ _ _ _
      (asked_alike _ _ _ _ (first_same y ly apart) (ap (λ (info : LegInfo). eqb info.origin.0 (plane_at I q.0).origin.0) (leg_same y ly apart)))
      (asked_same y (λ x. eqb (leg_at N y).origin.0 (leg_at N x).dest.0) (λ x. eqb (leg_at M y).origin.0 (leg_at M x).dest.0) ly apart (λ x lx other.
      ap (λ (info : LegInfo). eqb info.origin.0 (leg_at N x).dest.0) (leg_same y ly apart)
      ∙ ap (λ (info : LegInfo). eqb (leg_at M y).origin.0 info.dest.0) (leg_same x lx other))))
  c5_alike y Cancelled ly apart = refl

  pub c5_same : (y : ℕ) → y < count → y ≢ new → keeps_c5 N R y ≡ keeps_c5 M Q y
  unfolding keeps_c5
  c5_same y ly apart =
      ap (c5_location N R y) (row_same y ly apart)
      ∙ c5_is (with_added A a) y (row_at Q y) ∙ c5_alike y (row_at Q y) ly apart ∙ sym (c5_is A y (row_at Q y))

  c6_in : Situation → PlanRows → ℕ → Row → Bool
  c6_in J T y (Flown q d) =
      (plane_at I q.0).surface
      || each_below count (λ x. implies (follows_in T x y) (leb (departure (row_at T x) + (leg_at J x).block + cond (is_leg x (leg_at J y).prev) (plane_at I q.0).transit (plane_at I q.0).turnaround) d.0))
  c6_in J T y Cancelled = true

  c6_is : (B : List Added) (y : ℕ) (row : Row) → c6_ground_time (merged_day I P B) (merged_plan I P B) y row ≡ c6_in (merged_day I P B) (merged_plan I P B) y row
  unfolding c6_in follows_in
  c6_is B y (Flown q d) =
      ap (λ (n : ℕ). (plane_at I q.0).surface
      || each_below n (λ x. implies (precedes (merged_plan I P B) x y && none_below n (λ z. precedes (merged_plan I P B) x z && precedes (merged_plan I P B) z y)) (leb (departure (row_at (merged_plan I P B) x) + (leg_at (merged_day I P B) x).block + cond (is_leg x (leg_at (merged_day I P B) y).prev) (plane_at I q.0).transit (plane_at I q.0).turnaround) d.0))) (merged_legs I P B)
  c6_is B y Cancelled = refl

  c6_alike : (y : ℕ) (row : Row) → y < count → y ≢ new → c6_in N R y row ≡ c6_in M Q y row
  unfolding c6_in
  c6_alike y (Flown q d) ly apart =
      or_alike (plane_at I q.0).surface _ _
      (asked_same y (λ x. leb (departure (row_at R x) + (leg_at N x).block + cond (is_leg x (leg_at N y).prev) (plane_at I q.0).transit (plane_at I q.0).turnaround) d.0) (λ x. leb (departure (row_at Q x) + (leg_at M x).block + cond (is_leg x (leg_at M y).prev) (plane_at I q.0).transit (plane_at I q.0).turnaround) d.0) ly apart (λ x lx other.
      ap (λ (r : Row). leb (departure r + (leg_at N x).block + cond (is_leg x (leg_at N y).prev) (plane_at I q.0).transit (plane_at I q.0).turnaround) d.0) (row_same x lx other)
      ∙ ap (λ (info : LegInfo). leb (departure (row_at Q x) + info.block + cond (is_leg x (leg_at N y).prev) (plane_at I q.0).transit (plane_at I q.0).turnaround) d.0) (leg_same x lx other)
      ∙ ap (λ (info : LegInfo). leb (departure (row_at Q x) + (leg_at M x).block + cond (is_leg x info.prev) (plane_at I q.0).transit (plane_at I q.0).turnaround) d.0) (leg_same y ly apart)))
  c6_alike y Cancelled ly apart = refl

  pub c6_same : (y : ℕ) → y < count → y ≢ new → keeps_c6 N R y ≡ keeps_c6 M Q y
  unfolding keeps_c6
  c6_same y ly apart =
      ap (c6_ground_time N R y) (row_same y ly apart)
      ∙ c6_is (with_added A a) y (row_at Q y) ∙ c6_alike y (row_at Q y) ly apart ∙ sym (c6_is A y (row_at Q y))

  c4_alike : (y : ℕ) (row : Row) → y < count → y ≢ new → c4_range N y row ≡ c4_range M y row
  c4_alike y (Flown q d) ly apart = ap (λ (info : LegInfo). leb info.distance (plane_at I q.0).range) (leg_same y ly apart)
  c4_alike y Cancelled ly apart = refl

  pub c4_same : (y : ℕ) → y < count → y ≢ new → keeps_c4 N R y ≡ keeps_c4 M Q y
  unfolding keeps_c4
  c4_same y ly apart = ap (c4_range N y) (row_same y ly apart) ∙ c4_alike y (row_at Q y) ly apart

  c7_alike : (y : ℕ) (row : Row) → y < count → y ≢ new → c7_service N y row ≡ c7_service M y row
  c7_alike y (Flown q d) ly apart =
      ap (λ (info : LegInfo). (plane_at I q.0).surface || not (list_any (λ span. meets_span d.0 (d.0 + info.block) span.0 span.1) (spans N q.0))) (leg_same y ly apart)
      ∙ ap (λ (out : List (Minute × Minute)). (plane_at I q.0).surface || not (list_any (λ span. meets_span d.0 (d.0 + (leg_at M y).block) span.0 span.1) out)) (same_spans I P (with_added A a) q.0 valid ∙ sym (same_spans I P A q.0 valid))
  c7_alike y Cancelled ly apart = refl

  pub c7_same : (y : ℕ) → y < count → y ≢ new → keeps_c7 N R y ≡ keeps_c7 M Q y
  unfolding keeps_c7
  c7_same y ly apart = ap (c7_service N y) (row_same y ly apart) ∙ c7_alike y (row_at Q y) ly apart

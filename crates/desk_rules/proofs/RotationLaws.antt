-- The order on an aircraft, and the rules that speak of it: C5 and C6.
use Rattle.std.proofs.Common.{◌≡◌, ℕ, ◌+◌, ◌<◌, ◌≤◌, ◌⊎◌, inl, inr, Bool, true, false, ◌&&◌, ◌||◌, ltb, eqb, leb, refl, sym, ap, ◌∙◌}
use Rattle.std.proofs.lemmas.Bool.{and_parts, and_from, cases_Bool, or_cases, or_left, or_right, true≢false, ltb-true, eqb-true, leb-true, lt-ltb, eq-eqb, le-leb}
use Rattle.desk_units.specs.declared.numbers.Plane.{Plane}
use Rattle.desk_data.specs.declared.row.Row.{Row}
use Rattle.desk_data.specs.declared.row.Row.TheVariants.{Flown, Cancelled}
use Rattle.desk_data.specs.Situation.{Situation, legs_of, leg_at, plane_at}
use Rattle.desk_data.specs.PlanRows.{PlanRows, row_at}
use Rattle.desk_rules.specs.Numbers.{each_below, none_below, implies}
use Rattle.desk_rules.specs.Rotations.{is_earlier, comes_before, precedes, follows, is_first, arr, ground_time}
use Rattle.desk_rules.specs.Rules.{c5_location, c6_ground_time, keeps_c5, keeps_c6}
use Rattle.desk_rules.specs.Words.{Flies, Precedes, Follows, IsFirst, MeetsC5, KeepsLocation, MeetsC6}
use Rattle.desk_rules.proofs.Tests.{each_below-holds, each_below-from, none_below-holds, none_below-from, implies-holds, implies-from}

-- ---- the order on an aircraft

is_earlier-holds : (x d y e : ℕ) → is_earlier x d y e ≡ true → (d < e) ⊎ ((d ≡ e) × (x < y))
is_earlier-holds x d y e h =
    elim (or_cases (ltb d e) (eqb d e && ltb x y) h) [
      | inl less ↦ inl (ltb-true d e less)
      | inr same ↦ let parts = and_parts (eqb d e) (ltb x y) same in inr (eqb-true d e parts.0, ltb-true x y parts.1)
    ]

is_earlier-from : (x d y e : ℕ) → (d < e) ⊎ ((d ≡ e) × (x < y)) → is_earlier x d y e ≡ true
is_earlier-from x d y e (inl less) = or_left (ltb d e) (eqb d e && ltb x y) (lt-ltb d e less)
is_earlier-from x d y e (inr same) = or_right (ltb d e) (eqb d e && ltb x y) (and_from (eqb d e) (ltb x y) (eq-eqb d e same.0) (lt-ltb x y same.1))

comes_before-holds : (P : PlanRows) (x y : ℕ) (r s : Row) → row_at P x ≡ r → row_at P y ≡ s → comes_before x r y s ≡ true → Precedes P x y
comes_before-holds P x y (Flown p d) (Flown q e) first second h =
    let parts = and_parts (eqb p.0 q.0) (is_earlier x d.0 y e.0) h in
    let same : q.0 ≡ p.0 = sym (eqb-true p.0 q.0 parts.0) in
    record {
      plane = p.0;
      dep = d.0;
      later = e.0;
      first = first;
      second = second ∙ ap (λ (k : ℕ). let plane : Plane = record { 0 = k } in Flown plane e) same;
      order = is_earlier-holds x d.0 y e.0 parts.1;
    }
comes_before-holds P x y (Flown p d) Cancelled first second h = absurd (true≢false (sym h))
comes_before-holds P x y Cancelled s first second h = absurd (true≢false (sym h))

pub precedes-holds : (P : PlanRows) (x y : ℕ) → precedes P x y ≡ true → Precedes P x y
precedes-holds P x y h = comes_before-holds P x y (row_at P x) (row_at P y) refl refl h

pub precedes-from : (P : PlanRows) (x y : ℕ) → Precedes P x y → precedes P x y ≡ true
precedes-from P x y h =
    rw (h.first, h.second) (and_from (eqb h.plane h.plane) (is_earlier x h.dep y h.later) (eq-eqb h.plane h.plane refl) (is_earlier-from x h.dep y h.later h.order))

pub follows-holds : (I : Situation) (P : PlanRows) (x y : ℕ) → follows I P x y ≡ true → Follows I P x y
follows-holds I P x y h =
    let parts = and_parts (precedes P x y) (none_below (legs_of I) (λ z. precedes P x z && precedes P z y)) h in
    record {
      before = precedes-holds P x y parts.0;
      next = λ z lt a b. true≢false
          (sym (and_from (precedes P x z) (precedes P z y) (precedes-from P x z a) (precedes-from P z y b))
          ∙ none_below-holds (legs_of I) (λ z. precedes P x z && precedes P z y) parts.1 z lt);
    }

pub follows-from : (I : Situation) (P : PlanRows) (x y : ℕ) → Follows I P x y → follows I P x y ≡ true
follows-from I P x y h =
    and_from (precedes P x y) (none_below (legs_of I) (λ z. precedes P x z && precedes P z y))
    (precedes-from P x y h.before)
    (none_below-from (legs_of I) (λ z. precedes P x z && precedes P z y) (λ z lt both.
    let parts = and_parts (precedes P x z) (precedes P z y) both in
    h.next z lt (precedes-holds P x z parts.0) (precedes-holds P z y parts.1)))

pub is_first-holds : (I : Situation) (P : PlanRows) (y : ℕ) → is_first I P y ≡ true → IsFirst I P y
is_first-holds I P y h x lt before =
    true≢false (sym (precedes-from P x y before) ∙ none_below-holds (legs_of I) (λ x. precedes P x y) h x lt)

pub is_first-from : (I : Situation) (P : PlanRows) (y : ℕ) → IsFirst I P y → is_first I P y ≡ true
is_first-from I P y h = none_below-from (legs_of I) (λ x. precedes P x y) (λ x lt before. h x lt (precedes-holds P x y before))

-- ---- C5

abbrev leaves_origin : Situation → PlanRows → ℕ → ℕ → Bool
leaves_origin I P y p = implies (is_first I P y) (eqb (leg_at I y).origin.0 (plane_at I p).origin.0)

abbrev leaves_where_arrived : Situation → PlanRows → ℕ → ℕ → Bool
leaves_where_arrived I P y x = implies (follows I P x y) (eqb (leg_at I y).origin.0 (leg_at I x).dest.0)

c5_location-holds : (I : Situation) (P : PlanRows) (y p d : ℕ) → Flies P y p d → (plane_at I p).surface ≡ false → c5_location I P y (row_at P y) ≡ true → KeepsLocation I P y p
c5_location-holds I P y p d flown air h =
    let here : ((plane_at I p).surface || (leaves_origin I P y p && each_below (legs_of I) (leaves_where_arrived I P y))) ≡ true = rw flown at h in
    elim (or_cases (plane_at I p).surface (leaves_origin I P y p && each_below (legs_of I) (leaves_where_arrived I P y)) here) [
      | inl ground ↦ absurd (true≢false (sym ground ∙ air))
      | inr both ↦
          let parts = and_parts (leaves_origin I P y p) (each_below (legs_of I) (leaves_where_arrived I P y)) both in
          let made : KeepsLocation I P y p = record {
            first = λ first. eqb-true (leg_at I y).origin.0 (plane_at I p).origin.0
                (implies-holds (is_first I P y) (eqb (leg_at I y).origin.0 (plane_at I p).origin.0) parts.0 (is_first-from I P y first));
            follower = λ x lt next. eqb-true (leg_at I y).origin.0 (leg_at I x).dest.0
                (implies-holds (follows I P x y) (eqb (leg_at I y).origin.0 (leg_at I x).dest.0)
                (each_below-holds (legs_of I) (leaves_where_arrived I P y) parts.1 x lt) (follows-from I P x y next));
          } in made
    ]

c5_location-from : (I : Situation) (P : PlanRows) (y : ℕ) (r : Row) → ((p d : ℕ) → r ≡ Flown (record { 0 = p }) (record { 0 = d }) → (plane_at I p).surface ≡ false → KeepsLocation I P y p) → c5_location I P y r ≡ true
c5_location-from I P y (Flown p d) h =
    elim (cases_Bool (plane_at I p.0).surface) [
      | inl ground ↦ or_left (plane_at I p.0).surface (leaves_origin I P y p.0 && each_below (legs_of I) (leaves_where_arrived I P y)) ground
      | inr air ↦
          let facts = h p.0 d.0 refl air in
          or_right (plane_at I p.0).surface (leaves_origin I P y p.0 && each_below (legs_of I) (leaves_where_arrived I P y))
          (and_from (leaves_origin I P y p.0) (each_below (legs_of I) (leaves_where_arrived I P y))
          (implies-from (is_first I P y) (eqb (leg_at I y).origin.0 (plane_at I p.0).origin.0) (λ first. eq-eqb (leg_at I y).origin.0 (plane_at I p.0).origin.0 (facts.first (is_first-holds I P y first))))
          (each_below-from (legs_of I) (leaves_where_arrived I P y) (λ x lt.
          implies-from (follows I P x y) (eqb (leg_at I y).origin.0 (leg_at I x).dest.0) (λ next. eq-eqb (leg_at I y).origin.0 (leg_at I x).dest.0 (facts.follower x lt (follows-holds I P x y next))))))
    ]
c5_location-from I P y Cancelled h = refl

pub keeps_c5-holds : (I : Situation) (P : PlanRows) (y : ℕ) → keeps_c5 I P y ≡ true → MeetsC5 I P y
unfolding keeps_c5
keeps_c5-holds I P y h p d flown air = c5_location-holds I P y p d flown air h

pub keeps_c5-from : (I : Situation) (P : PlanRows) (y : ℕ) → MeetsC5 I P y → keeps_c5 I P y ≡ true
unfolding keeps_c5
keeps_c5-from I P y h = c5_location-from I P y (row_at P y) h

-- ---- C6

abbrev departs_after : Situation → PlanRows → ℕ → ℕ → ℕ → ℕ → Bool
departs_after I P y p d x = implies (follows I P x y) (leb (arr I P x + ground_time I p x y) d)

c6_ground_time-holds : (I : Situation) (P : PlanRows) (y p d : ℕ) → Flies P y p d → (plane_at I p).surface ≡ false → c6_ground_time I P y (row_at P y) ≡ true → (x : ℕ) → x < legs_of I → Follows I P x y → arr I P x + ground_time I p x y ≤ d
c6_ground_time-holds I P y p d flown air h x lt next =
    let here : ((plane_at I p).surface || each_below (legs_of I) (departs_after I P y p d)) ≡ true = rw flown at h in
    elim (or_cases (plane_at I p).surface (each_below (legs_of I) (departs_after I P y p d)) here) [
      | inl ground ↦ absurd (true≢false (sym ground ∙ air))
      | inr each ↦ leb-true (arr I P x + ground_time I p x y) d
          (implies-holds (follows I P x y) (leb (arr I P x + ground_time I p x y) d)
          (each_below-holds (legs_of I) (departs_after I P y p d) each x lt) (follows-from I P x y next))
    ]

c6_ground_time-from : (I : Situation) (P : PlanRows) (y : ℕ) (r : Row) → ((p d : ℕ) → r ≡ Flown (record { 0 = p }) (record { 0 = d }) → (plane_at I p).surface ≡ false → (x : ℕ) → x < legs_of I → Follows I P x y → arr I P x + ground_time I p x y ≤ d) → c6_ground_time I P y r ≡ true
c6_ground_time-from I P y (Flown p d) h =
    elim (cases_Bool (plane_at I p.0).surface) [
      | inl ground ↦ or_left (plane_at I p.0).surface (each_below (legs_of I) (departs_after I P y p.0 d.0)) ground
      | inr air ↦ or_right (plane_at I p.0).surface (each_below (legs_of I) (departs_after I P y p.0 d.0))
          (each_below-from (legs_of I) (departs_after I P y p.0 d.0) (λ x lt.
          implies-from (follows I P x y) (leb (arr I P x + ground_time I p.0 x y) d.0)
          (λ next. le-leb (arr I P x + ground_time I p.0 x y) d.0 (h p.0 d.0 refl air x lt (follows-holds I P x y next)))))
    ]
c6_ground_time-from I P y Cancelled h = refl

pub keeps_c6-holds : (I : Situation) (P : PlanRows) (y : ℕ) → keeps_c6 I P y ≡ true → MeetsC6 I P y
unfolding keeps_c6
keeps_c6-holds I P y h p d flown air x lt next = c6_ground_time-holds I P y p d flown air h x lt next

pub keeps_c6-from : (I : Situation) (P : PlanRows) (y : ℕ) → MeetsC6 I P y → keeps_c6 I P y ≡ true
unfolding keeps_c6
keeps_c6-from I P y h = c6_ground_time-from I P y (row_at P y) h

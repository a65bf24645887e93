-- The rules of an aircraft's maintenance: C8 and C9.
use Rattle.std.proofs.Common.{◌≡◌, ℕ, ◌<◌, ◌≤◌, inl, inr, Bool, true, ◌&&◌, ltb, eqb, leb, refl, sym, ap, subst, ◌∙◌}
use Rattle.std.specs.Prelude.{Option, None, Some}
use Rattle.std.proofs.lemmas.Bool.{and_parts, and_from, cases_Bool, or_cases, or_left, or_right, true≢false, ltb-true, eqb-true, leb-true, lt-ltb, eq-eqb, le-leb}
use Rattle.desk_units.specs.declared.numbers.Plane.{Plane}
use Rattle.desk_data.specs.declared.info.Maint.{Maint}
use Rattle.desk_data.specs.declared.row.Row.{Row}
use Rattle.desk_data.specs.declared.row.Row.TheVariants.{Flown, Cancelled}
use Rattle.desk_data.specs.Situation.{Situation, legs_of, leg_at, plane_at}
use Rattle.desk_data.specs.PlanRows.{PlanRows, row_at}
use Rattle.desk_rules.specs.Numbers.{each_below, none_below, implies}
use Rattle.desk_rules.specs.Rotations.{departure, dep, arr, precedes}
use Rattle.desk_rules.specs.Rules.{meets_span}
use Rattle.desk_rules.specs.Maintenance.{is_flown_by, flies, departs_before, departs_from, is_last_before, is_left_at, is_free_for, makes_maintenance, minutes_before, is_within_minutes, keeps_c8, keeps_c9}
use Rattle.desk_rules.specs.Words.{Flies, MeetsSpan, IsLastBefore, MakesMaintenance, MeetsC8, MeetsC9}
use Rattle.desk_rules.proofs.Tests.{each_below-holds, each_below-from, none_below-holds, none_below-from, implies-holds, implies-from}
use Rattle.desk_rules.proofs.RotationLaws.{precedes-holds, precedes-from}
use Rattle.desk_rules.proofs.LegLaws.{meets_span-holds, meets_span-from}

-- ---- the legs of an aircraft

is_flown_by-holds : (p : ℕ) (r : Row) → is_flown_by p r ≡ true → r ≡ Flown (record { 0 = p }) (record { 0 = departure r })
is_flown_by-holds p (Flown q d) h = ap (λ (k : ℕ). let plane : Plane = record { 0 = k } in Flown plane d) (eqb-true q.0 p h)
is_flown_by-holds p Cancelled h = absurd (true≢false (sym h))

pub flies-holds : (P : PlanRows) (p x : ℕ) → flies P p x ≡ true → Flies P x p (dep P x)
flies-holds P p x h = is_flown_by-holds p (row_at P x) h

pub flies-from : (P : PlanRows) (p x d : ℕ) → Flies P x p d → flies P p x ≡ true
flies-from P p x d flown = rw flown (eq-eqb p p refl)

pub dep-is : (P : PlanRows) (p x d : ℕ) → Flies P x p d → dep P x ≡ d
dep-is P p x d flown = ap departure flown

pub departs_before-holds : (P : PlanRows) (p at x : ℕ) → departs_before P p at x ≡ true → Flies P x p (dep P x) × (dep P x < at)
departs_before-holds P p at x h =
    let parts = and_parts (flies P p x) (ltb (dep P x) at) h in
    (flies-holds P p x parts.0, ltb-true (dep P x) at parts.1)

pub departs_before-from : (P : PlanRows) (p at x d : ℕ) → Flies P x p d → d < at → departs_before P p at x ≡ true
departs_before-from P p at x d flown less =
    and_from (flies P p x) (ltb (dep P x) at) (flies-from P p x d flown)
    (lt-ltb (dep P x) at (subst (λ (k : ℕ). k < at) (sym (dep-is P p x d flown)) less))

pub departs_from-holds : (P : PlanRows) (p at x : ℕ) → departs_from P p at x ≡ true → Flies P x p (dep P x) × (at ≤ dep P x)
departs_from-holds P p at x h =
    let parts = and_parts (flies P p x) (leb at (dep P x)) h in
    (flies-holds P p x parts.0, leb-true at (dep P x) parts.1)

pub departs_from-from : (P : PlanRows) (p at x d : ℕ) → Flies P x p d → at ≤ d → departs_from P p at x ≡ true
departs_from-from P p at x d flown no_less =
    and_from (flies P p x) (leb at (dep P x)) (flies-from P p x d flown)
    (le-leb at (dep P x) (subst (λ (k : ℕ). at ≤ k) (sym (dep-is P p x d flown)) no_less))

-- ---- the last leg before a moment

-- a leg of the aircraft that departs before the moment, after leg x
abbrev is_later : PlanRows → ℕ → ℕ → ℕ → ℕ → Bool
is_later P p at x z = departs_before P p at z && precedes P x z

pub is_last_before-holds : (I : Situation) (P : PlanRows) (p at x : ℕ) → is_last_before I P p at x ≡ true → IsLastBefore I P p at x
is_last_before-holds I P p at x h =
    let parts = and_parts (departs_before P p at x) (none_below (legs_of I) (is_later P p at x)) h in
    let here = departs_before-holds P p at x parts.0 in
    record {
      dep = dep P x;
      flown = here.0;
      before = here.1;
      last = λ z d lt flown less before. true≢false
          (sym (and_from (departs_before P p at z) (precedes P x z) (departs_before-from P p at z d flown less) (precedes-from P x z before))
          ∙ none_below-holds (legs_of I) (is_later P p at x) parts.1 z lt);
    }

pub is_last_before-from : (I : Situation) (P : PlanRows) (p at x : ℕ) → IsLastBefore I P p at x → is_last_before I P p at x ≡ true
is_last_before-from I P p at x h =
    and_from (departs_before P p at x) (none_below (legs_of I) (is_later P p at x))
    (departs_before-from P p at x h.dep h.flown h.before)
    (none_below-from (legs_of I) (is_later P p at x) (λ z lt both.
    let parts = and_parts (departs_before P p at z) (precedes P x z) both in
    let there = departs_before-holds P p at z parts.0 in
    h.last z (dep P z) lt there.0 there.1 (precedes-holds P x z parts.1)))

-- ---- C8

-- leg x of the aircraft meets the maintenance
abbrev is_met_by : Situation → PlanRows → ℕ → Maint → ℕ → Bool
is_met_by I P p maint x = flies P p x && meets_span (dep P x) (arr I P x) maint.from maint.to

-- none of the aircraft's legs meets the maintenance
abbrev IsFreeFor : Situation → PlanRows → ℕ → Maint → Type 0
IsFreeFor I P p maint = (x d : ℕ) → x < legs_of I → Flies P x p d → MeetsSpan I x d maint.from maint.to → ⊥

is_free_for-holds : (I : Situation) (P : PlanRows) (p : ℕ) (maint : Maint) → is_free_for I P p maint ≡ true → IsFreeFor I P p maint
is_free_for-holds I P p maint h x d lt flown met =
    let there : MeetsSpan I x (dep P x) maint.from maint.to = subst (λ (k : ℕ). MeetsSpan I x k maint.from maint.to) (sym (dep-is P p x d flown)) met in
    true≢false
    (sym (and_from (flies P p x) (meets_span (dep P x) (arr I P x) maint.from maint.to) (flies-from P p x d flown) (meets_span-from I x (dep P x) maint.from maint.to there))
    ∙ none_below-holds (legs_of I) (is_met_by I P p maint) h x lt)

is_free_for-from : (I : Situation) (P : PlanRows) (p : ℕ) (maint : Maint) → IsFreeFor I P p maint → is_free_for I P p maint ≡ true
is_free_for-from I P p maint h =
    none_below-from (legs_of I) (is_met_by I P p maint) (λ x lt both.
    let parts = and_parts (flies P p x) (meets_span (dep P x) (arr I P x) maint.from maint.to) both in
    h x (dep P x) lt (flies-holds P p x parts.0) (meets_span-holds I x (dep P x) maint.from maint.to parts.1))

-- the aircraft has no leg before the moment
abbrev HasNoneBefore : Situation → PlanRows → ℕ → ℕ → Type 0
HasNoneBefore I P p at = (x d : ℕ) → x < legs_of I → Flies P x p d → d < at → ⊥

none_before-holds : (I : Situation) (P : PlanRows) (p at : ℕ) → none_below (legs_of I) (departs_before P p at) ≡ true → HasNoneBefore I P p at
none_before-holds I P p at h x d lt flown less =
    true≢false (sym (departs_before-from P p at x d flown less) ∙ none_below-holds (legs_of I) (departs_before P p at) h x lt)

none_before-from : (I : Situation) (P : PlanRows) (p at : ℕ) → HasNoneBefore I P p at → none_below (legs_of I) (departs_before P p at) ≡ true
none_before-from I P p at h =
    none_below-from (legs_of I) (departs_before P p at) (λ x lt before.
    let there = departs_before-holds P p at x before in
    h x (dep P x) lt there.0 there.1)

-- the aircraft began at the airport, where no leg is before the moment
abbrev began_there : Situation → PlanRows → ℕ → ℕ → ℕ → Bool
began_there I P p at airport = implies (none_below (legs_of I) (departs_before P p at)) (eqb (plane_at I p).origin.0 airport)

-- leg x arrived at the airport, where it is the last before the moment
abbrev left_there : Situation → PlanRows → ℕ → ℕ → ℕ → ℕ → Bool
left_there I P p at airport x = implies (is_last_before I P p at x) (eqb (leg_at I x).dest.0 airport)

makes-holds : (I : Situation) (P : PlanRows) (p : ℕ) (maint : Maint) → (is_free_for I P p maint && is_left_at I P p maint.from.0 maint.airport.0) ≡ true → MakesMaintenance I P p maint
makes-holds I P p maint h =
    let at = maint.from.0 in
    let airport = maint.airport.0 in
    let outer = and_parts (is_free_for I P p maint) (is_left_at I P p at airport) h in
    let inner = and_parts (began_there I P p at airport) (each_below (legs_of I) (left_there I P p at airport)) outer.1 in
    record {
      free = is_free_for-holds I P p maint outer.0;
      left = λ x lt last. eqb-true (leg_at I x).dest.0 airport
          (implies-holds (is_last_before I P p at x) (eqb (leg_at I x).dest.0 airport)
          (each_below-holds (legs_of I) (left_there I P p at airport) inner.1 x lt) (is_last_before-from I P p at x last));
      began = λ none. eqb-true (plane_at I p).origin.0 airport
          (implies-holds (none_below (legs_of I) (departs_before P p at)) (eqb (plane_at I p).origin.0 airport) inner.0 (none_before-from I P p at none));
    }

makes-from : (I : Situation) (P : PlanRows) (p : ℕ) (maint : Maint) → MakesMaintenance I P p maint → (is_free_for I P p maint && is_left_at I P p maint.from.0 maint.airport.0) ≡ true
makes-from I P p maint h =
    let at = maint.from.0 in
    let airport = maint.airport.0 in
    and_from (is_free_for I P p maint) (is_left_at I P p at airport) (is_free_for-from I P p maint h.free)
    (and_from (began_there I P p at airport) (each_below (legs_of I) (left_there I P p at airport))
    (implies-from (none_below (legs_of I) (departs_before P p at)) (eqb (plane_at I p).origin.0 airport)
    (λ none. eq-eqb (plane_at I p).origin.0 airport (h.began (none_before-holds I P p at none))))
    (each_below-from (legs_of I) (left_there I P p at airport) (λ x lt.
    implies-from (is_last_before I P p at x) (eqb (leg_at I x).dest.0 airport)
    (λ last. eq-eqb (leg_at I x).dest.0 airport (h.left x lt (is_last_before-holds I P p at x last))))))

-- where the aircraft flies from the maintenance on, it makes it
abbrev MakesIfFlying : Situation → PlanRows → ℕ → Maint → Type 0
MakesIfFlying I P p maint = (x d : ℕ) → x < legs_of I → Flies P x p d → maint.from.0 ≤ d → MakesMaintenance I P p maint

makes_maintenance-holds : (I : Situation) (P : PlanRows) (p : ℕ) (planned : Option Maint) (maint : Maint) → makes_maintenance I P p planned ≡ true → planned ≡ Some maint → MakesIfFlying I P p maint
makes_maintenance-holds I P p None maint h is x d lt flown no_less = absurd cc
makes_maintenance-holds I P p (Some other) maint h is x d lt flown no_less =
    let same : other ≡ maint = cc in
    let here = subst (λ (m : Maint). makes_maintenance I P p (Some m) ≡ true) same h in
    elim (or_cases (none_below (legs_of I) (departs_from P p maint.from.0)) (is_free_for I P p maint && is_left_at I P p maint.from.0 maint.airport.0) here) [
      | inl still ↦ absurd (true≢false
          (sym (departs_from-from P p maint.from.0 x d flown no_less) ∙ none_below-holds (legs_of I) (departs_from P p maint.from.0) still x lt))
      | inr makes ↦ makes-holds I P p maint makes
    ]

makes_maintenance-from : (I : Situation) (P : PlanRows) (p : ℕ) (planned : Option Maint) → ((maint : Maint) → planned ≡ Some maint → MakesIfFlying I P p maint) → makes_maintenance I P p planned ≡ true
makes_maintenance-from I P p None h = refl
makes_maintenance-from I P p (Some maint) h =
    let still = none_below (legs_of I) (departs_from P p maint.from.0) in
    let makes = is_free_for I P p maint && is_left_at I P p maint.from.0 maint.airport.0 in
    elim (cases_Bool makes) [
      | inl made ↦ or_right still makes made
      | inr missed ↦ or_left still makes (none_below-from (legs_of I) (departs_from P p maint.from.0) (λ x lt flies_on.
          let there = departs_from-holds P p maint.from.0 x flies_on in
          true≢false (sym (makes-from I P p maint (h maint refl x (dep P x) lt there.0 there.1)) ∙ missed)))
    ]

pub keeps_c8-holds : (I : Situation) (P : PlanRows) (p : ℕ) → keeps_c8 I P p ≡ true → MeetsC8 I P p
unfolding keeps_c8
keeps_c8-holds I P p h air maint is =
    elim (or_cases (plane_at I p).surface (makes_maintenance I P p (plane_at I p).maint) h) [
      | inl ground ↦ absurd (true≢false (sym ground ∙ air))
      | inr makes ↦ makes_maintenance-holds I P p (plane_at I p).maint maint makes is
    ]

pub keeps_c8-from : (I : Situation) (P : PlanRows) (p : ℕ) → MeetsC8 I P p → keeps_c8 I P p ≡ true
unfolding keeps_c8
keeps_c8-from I P p h =
    elim (cases_Bool (plane_at I p).surface) [
      | inl ground ↦ or_left (plane_at I p).surface (makes_maintenance I P p (plane_at I p).maint) ground
      | inr air ↦ or_right (plane_at I p).surface (makes_maintenance I P p (plane_at I p).maint) (makes_maintenance-from I P p (plane_at I p).maint (h air))
    ]

-- ---- C9

is_within_minutes-holds : (I : Situation) (P : PlanRows) (p : ℕ) (planned : Option Maint) (maint : Maint) → is_within_minutes I P p planned ≡ true → planned ≡ Some maint → minutes_before I P p maint.from.0 ≤ maint.minutes
is_within_minutes-holds I P p None maint h is = absurd cc
is_within_minutes-holds I P p (Some other) maint h is =
    let same : other ≡ maint = cc in
    leb-true (minutes_before I P p maint.from.0) maint.minutes (subst (λ (m : Maint). is_within_minutes I P p (Some m) ≡ true) same h)

is_within_minutes-from : (I : Situation) (P : PlanRows) (p : ℕ) (planned : Option Maint) → ((maint : Maint) → planned ≡ Some maint → minutes_before I P p maint.from.0 ≤ maint.minutes) → is_within_minutes I P p planned ≡ true
is_within_minutes-from I P p None h = refl
is_within_minutes-from I P p (Some maint) h = le-leb (minutes_before I P p maint.from.0) maint.minutes (h maint refl)

pub keeps_c9-holds : (I : Situation) (P : PlanRows) (p : ℕ) → keeps_c9 I P p ≡ true → MeetsC9 I P p
unfolding keeps_c9
keeps_c9-holds I P p h air maint is =
    elim (or_cases (plane_at I p).surface (is_within_minutes I P p (plane_at I p).maint) h) [
      | inl ground ↦ absurd (true≢false (sym ground ∙ air))
      | inr within ↦ is_within_minutes-holds I P p (plane_at I p).maint maint within is
    ]

pub keeps_c9-from : (I : Situation) (P : PlanRows) (p : ℕ) → MeetsC9 I P p → keeps_c9 I P p ≡ true
unfolding keeps_c9
keeps_c9-from I P p h =
    elim (cases_Bool (plane_at I p).surface) [
      | inl ground ↦ or_left (plane_at I p).surface (is_within_minutes I P p (plane_at I p).maint) ground
      | inr air ↦ or_right (plane_at I p).surface (is_within_minutes I P p (plane_at I p).maint) (is_within_minutes-from I P p (plane_at I p).maint (h air))
    ]

-- What Push does.
use Rattle.std.proofs.Common.{◌≡◌, ℕ, ◌+◌, ◌<◌, ◌≤◌, max, ◌⊎◌, inl, inr, Bool, true, false, ◌&&◌, not, List, [], ◌∷◌, ◌++◌, length, refl, sym, ap, subst, ◌∙◌, arith}
use Rattle.std.specs.Prelude.{Option, None, Some, filter, find, fold, map}
use Rattle.std.specs.List.{All, AllPairs, Contains, AllByRecursion, list_any}
use Rattle.std.proofs.lemmas.Bool.{true≢false, cases_Bool, cases_eq, cases_lt, and_parts, and_from, not-true, not_from_false, ltb-true, lt-ltb}
use Rattle.std.proofs.lemmas.List.{map-id, length-set, get_or-set_same, get_or-set_other, get_or_past}
use Rattle.std.proofs.lemmas.List.Elements.{All-filter, All-weaker, All-contains, All-contains_itself, recursion_from_All, filter_passes}
use Rattle.std.proofs.lemmas.List.Folds.{list_any_none, list_any_at}
use Rattle.std.proofs.lemmas.List.Kept.{AllPairs-filter}
use Rattle.std.proofs.lemmas.List.Sums.{fold-append}
use Rattle.desk_units.specs.declared.numbers.Leg.{Leg}
use Rattle.desk_units.specs.declared.numbers.Minute.{Minute}
use Rattle.desk_data.specs.declared.row.Row.TheVariants.{Flown, Cancelled}
use Rattle.desk_data.specs.declared.info.Maint.{Maint}
use Rattle.desk_data.specs.Situation.{Situation, legs_of, planes_of, leg_at, plane_at, fixed, earliest, latest, spans}
use Rattle.desk_data.specs.Hours.{dep_cap, arr_cap}
use Rattle.desk_data.specs.PlanRows.{PlanRows, row_at}
use Rattle.desk_data.specs.Valid.{IsValid, IsPlanFor}
use Rattle.desk_data.proofs.DepartureLaws.{latest-lt}
use Rattle.desk_rules.specs.Numbers.{numbers}
use Rattle.desk_rules.specs.Rotations.{dep, arr, follows, ground_time}
use Rattle.desk_rules.specs.Rules.{meets_span}
use Rattle.desk_rules.specs.Maintenance.{flies}
use Rattle.desk_rules.specs.Slots.{hour_of}
use Rattle.desk_rules.specs.Words.{Flies, Precedes, Follows, MeetsSpan}
use Rattle.desk_rules.proofs.FindLaws.{none_of_numbers}
use Rattle.desk_rules.proofs.RotationLaws.{precedes-holds, precedes-from, follows-holds, follows-from}
use Rattle.desk_rules.proofs.MaintenanceLaws.{flies-holds, flies-from}
use Rattle.desk_rules.proofs.LegLaws.{meets_span-holds, meets_span-from}
use Rattle.desk_model.specs.Push.{rotation, comes_after, pushed_legs, leg_before, ready_moment, meets_maintenance, is_free, departures_beside, arrivals_beside, is_below, has_slots, can_depart, first_departure, with_departure, after_placing, after_push, IsPushed, MayDepart, DepartsFirst, KeepsItsRow, PlacesLeg}
use Rattle.desk_model.specs.Fallback.{IsFlownBy}
use Rattle.desk_model.proofs.ChoiceLaws.{FirstAt, found_first, first_within-holds, first_within-none}
use Rattle.desk_model.proofs.ValidLaws.{with_row-valid}
use Rattle.desk_model.proofs.RotationOrder.{flown_once, precedes-itself, precedes-total, Contains-filter, All-suffix, pairs_across, pairs_after, rotation-ordered, rotation-flown, rotation-each}
use Rattle.desk_data.proofs.PathOrder.{pairs_head}

-- ---- the leg before

-- no two legs are the leg before
follows_once : (I : Situation) (P : PlanRows) (v w x : ℕ) → v < legs_of I → w < legs_of I → Follows I P v x → Follows I P w x → v ≡ w
follows_once I P v w x in_v in_w a b =
    let plane : a.before.plane ≡ b.before.plane = flown_once P x a.before.plane b.before.plane a.before.later b.before.later a.before.second b.before.second in
    let first : Flies P v b.before.plane a.before.dep = subst (λ (p : ℕ). Flies P v p a.before.dep) plane a.before.first in
    elim (cases_eq v w) [
      | inl same ↦ same
      | inr different ↦ elim (precedes-total P b.before.plane v w a.before.dep b.before.dep first b.before.first different) [
        | inl earlier ↦ absurd (a.next w in_w earlier b.before)
        | inr later ↦ absurd (b.next v in_v later a.before)
      ]
    ]

before-is : (I : Situation) (P : PlanRows) (x : ℕ) → leg_before I P x ≡ find (λ w. follows I P w x) (map (λ (k : ℕ). k) (numbers (legs_of I)))
before-is I P x = ap (find (λ w. follows I P w x)) (sym (map-id (numbers (legs_of I))))

ready_to : (I : Situation) (P Q : PlanRows) (p x t : ℕ) (o : Option ℕ) → leg_before I P x ≡ o → ready_moment I Q p x o ≤ t → (w : ℕ) → w < legs_of I → Follows I P w x → arr I Q w + ground_time I p w x ≤ t
ready_to I P Q p x t None is le w within follows_x =
    absurd (true≢false (sym (follows-from I P w x follows_x) ∙ none_of_numbers (λ v. follows I P v x) (λ (k : ℕ). k) (legs_of I) (sym (before-is I P x) ∙ is) w within))
ready_to I P Q p x t (Some v) is le w within follows_x =
    let at : FirstAt (λ u. follows I P u x) (λ (k : ℕ). k) (legs_of I) v = found_first (λ u. follows I P u x) (λ (k : ℕ). k) (legs_of I) v (sym (before-is I P x) ∙ is) in
    let in_v : v < legs_of I = subst (λ (k : ℕ). k < legs_of I) at.is at.within in
    let same : v ≡ w = follows_once I P v w x in_v within (follows-holds I P v x at.holds) follows_x in
    subst (λ (u : ℕ). arr I Q u + ground_time I p u x ≤ t) same le

ready_from : (I : Situation) (P Q : PlanRows) (p x t : ℕ) (o : Option ℕ) → leg_before I P x ≡ o → ((w : ℕ) → w < legs_of I → Follows I P w x → arr I Q w + ground_time I p w x ≤ t) → ready_moment I Q p x o ≤ t
ready_from I P Q p x t None is le = omega arith
ready_from I P Q p x t (Some v) is le =
    let at : FirstAt (λ u. follows I P u x) (λ (k : ℕ). k) (legs_of I) v = found_first (λ u. follows I P u x) (λ (k : ℕ). k) (legs_of I) v (sym (before-is I P x) ∙ is) in
    let in_v : v < legs_of I = subst (λ (k : ℕ). k < legs_of I) at.is at.within in
    le v in_v (follows-holds I P v x at.holds)

-- ---- whether a leg can depart

free_spans : (I : Situation) (p x t : ℕ) → list_any (λ (span : Minute × Minute). meets_span t (t + (leg_at I x).block) span.0 span.1) (spans I p) ≡ false → All (λ (span : Minute × Minute). MeetsSpan I x t span.0 span.1 → ⊥) (spans I p)
free_spans I p x t none k d within meets =
    true≢false (sym (list_any_at (λ (span : Minute × Minute). meets_span t (t + (leg_at I x).block) span.0 span.1) (spans I p) k d within (meets_span-from I x t _ _ meets)) ∙ none)

spans_free : (I : Situation) (p x t : ℕ) → All (λ (span : Minute × Minute). MeetsSpan I x t span.0 span.1 → ⊥) (spans I p) → list_any (λ (span : Minute × Minute). meets_span t (t + (leg_at I x).block) span.0 span.1) (spans I p) ≡ false
spans_free I p x t free =
    list_any_none (λ (span : Minute × Minute). meets_span t (t + (leg_at I x).block) span.0 span.1) (spans I p)
    (All-weaker (λ (span : Minute × Minute). MeetsSpan I x t span.0 span.1 → ⊥) (λ (span : Minute × Minute). meets_span t (t + (leg_at I x).block) span.0 span.1 ≡ false)
    (λ span none. elim (cases_Bool (meets_span t (t + (leg_at I x).block) span.0 span.1)) [
      | inl meets ↦ absurd (none (meets_span-holds I x t span.0 span.1 meets))
      | inr apart ↦ apart
    ]) (spans I p) free)

free_maintenance : (I : Situation) (x t : ℕ) (o : Option Maint) (maint : Maint) → meets_maintenance t (t + (leg_at I x).block) o ≡ false → o ≡ Some maint → MeetsSpan I x t maint.from maint.to → ⊥
free_maintenance I x t None maint none is meets = absurd cc
free_maintenance I x t (Some other) maint none is meets =
    let same : other ≡ maint = cc in
    let here : meets_span t (t + (leg_at I x).block) maint.from maint.to ≡ false = subst (λ (m : Maint). meets_span t (t + (leg_at I x).block) m.from m.to ≡ false) same none in
    true≢false (sym (meets_span-from I x t maint.from maint.to meets) ∙ here)

maintenance_free : (I : Situation) (x t : ℕ) (o : Option Maint) → ((maint : Maint) → o ≡ Some maint → MeetsSpan I x t maint.from maint.to → ⊥) → meets_maintenance t (t + (leg_at I x).block) o ≡ false
maintenance_free I x t None free = refl
maintenance_free I x t (Some maint) free =
    elim (cases_Bool (meets_span t (t + (leg_at I x).block) maint.from maint.to)) [
      | inl meets ↦ absurd (free maint refl (meets_span-holds I x t maint.from maint.to meets))
      | inr apart ↦ apart
    ]

is_below-holds : (count : ℕ) (limit : Option ℕ) (cap : ℕ) → is_below count limit ≡ true → limit ≡ Some cap → count < cap
is_below-holds count None cap below is = absurd cc
is_below-holds count (Some other) cap below is =
    let same : other ≡ cap = cc in
    subst (λ (k : ℕ). count < k) same (ltb-true count other below)

is_below-from : (count : ℕ) (limit : Option ℕ) → ((cap : ℕ) → limit ≡ Some cap → count < cap) → is_below count limit ≡ true
is_below-from count None below = refl
is_below-from count (Some cap) below = lt-ltb count cap (below cap refl)

-- when a leg may depart by the bounds and by the test
may_from : (I : Situation) (P Q : PlanRows) (p x t : ℕ) → max (ready_moment I Q p x (leg_before I P x)) (earliest I x) ≤ t → t ≤ latest I x → can_depart I Q p x t ≡ true → MayDepart I P Q p x t
unfolding is_free has_slots
may_from I P Q p x t from to can =
    let leg = leg_at I x in
    let lands = t + leg.block in
    let outer = and_parts (is_free I p x t) (has_slots I Q x t) can in
    let meets = list_any (λ (span : Minute × Minute). meets_span t lands span.0 span.1) (spans I p) in
    let free = and_parts (not meets) (not (meets_maintenance t lands (plane_at I p).maint)) outer.0 in
    let deps = is_below (departures_beside I Q x leg.origin.0 (hour_of t)) (dep_cap I leg.origin.0 (hour_of t)) in
    let arrs = is_below (arrivals_beside I Q x leg.dest.0 (hour_of lands)) (arr_cap I leg.dest.0 (hour_of lands)) in
    let slots = and_parts deps arrs outer.1 in
    record {
      ready = ready_to I P Q p x t (leg_before I P x) refl (omega arith);
      earliest = omega arith;
      latest = to;
      service = free_spans I p x t (not-true meets free.0);
      maintenance = λ maint is. free_maintenance I x t (plane_at I p).maint maint (not-true (meets_maintenance t lands (plane_at I p).maint) free.1) is;
      departures = λ cap is. is_below-holds (departures_beside I Q x leg.origin.0 (hour_of t)) (dep_cap I leg.origin.0 (hour_of t)) cap slots.0 is;
      arrivals = λ cap is. is_below-holds (arrivals_beside I Q x leg.dest.0 (hour_of lands)) (arr_cap I leg.dest.0 (hour_of lands)) cap slots.1 is;
    }

may_bounds : (I : Situation) (P Q : PlanRows) (p x t : ℕ) → MayDepart I P Q p x t → max (ready_moment I Q p x (leg_before I P x)) (earliest I x) ≤ t
may_bounds I P Q p x t may =
    let ready = ready_from I P Q p x t (leg_before I P x) refl may.ready in
    let own = may.earliest in
    omega (arith, ready, own)

may_can : (I : Situation) (P Q : PlanRows) (p x t : ℕ) → MayDepart I P Q p x t → can_depart I Q p x t ≡ true
unfolding is_free has_slots
may_can I P Q p x t may =
    let leg = leg_at I x in
    let lands = t + leg.block in
    let meets = list_any (λ (span : Minute × Minute). meets_span t lands span.0 span.1) (spans I p) in
    let rests = meets_maintenance t lands (plane_at I p).maint in
    let deps = is_below (departures_beside I Q x leg.origin.0 (hour_of t)) (dep_cap I leg.origin.0 (hour_of t)) in
    let arrs = is_below (arrivals_beside I Q x leg.dest.0 (hour_of lands)) (arr_cap I leg.dest.0 (hour_of lands)) in
    and_from (not meets && not rests) (deps && arrs)
    (and_from (not meets) (not rests) (not_from_false meets (spans_free I p x t may.service)) (not_from_false rests (maintenance_free I x t (plane_at I p).maint may.maintenance)))
    (and_from deps arrs (is_below-from _ (dep_cap I leg.origin.0 (hour_of t)) may.departures) (is_below-from _ (arr_cap I leg.dest.0 (hour_of lands)) may.arrivals))

-- ---- placing one leg

with_departure-other : (Q : PlanRows) (p x y : ℕ) (o : Option ℕ) → (y ≡ x → ⊥) → row_at (with_departure Q p x o) y ≡ row_at Q y
with_departure-other Q p x y None other = refl
with_departure-other Q p x y (Some t) other = get_or-set_other Q.rows x y _ Cancelled other

with_departure-groups : (Q : PlanRows) (p x : ℕ) (o : Option ℕ) → (with_departure Q p x o).groups ≡ Q.groups
with_departure-groups Q p x None = refl
with_departure-groups Q p x (Some t) = refl

with_departure-length : (Q : PlanRows) (p x : ℕ) (o : Option ℕ) → length (with_departure Q p x o).rows ≡ length Q.rows
with_departure-length Q p x None = refl
with_departure-length Q p x (Some t) = length-set Q.rows x _

-- ---- placing some legs

module _ (I : Situation) (P : PlanRows) (p : ℕ) where
  abbrev pub place_all : PlanRows → List ℕ → PlanRows
  place_all Q legs = fold (after_placing I P p) Q legs

  place_all-other : (Q : PlanRows) (legs : List ℕ) (y : ℕ) → AllByRecursion (λ x. y ≡ x → ⊥) legs → row_at (place_all Q legs) y ≡ row_at Q y
  place_all-other Q [] y others = refl
  place_all-other Q (x ∷ legs) y others = place_all-other (after_placing I P p Q x) legs y others.1 ∙ with_departure-other Q p x y (first_departure I P Q p x) others.0

  place_all-groups : (Q : PlanRows) (legs : List ℕ) → (place_all Q legs).groups ≡ Q.groups
  place_all-groups Q [] = refl
  place_all-groups Q (x ∷ legs) = place_all-groups (after_placing I P p Q x) legs ∙ with_departure-groups Q p x (first_departure I P Q p x)

  place_all-length : (Q : PlanRows) (legs : List ℕ) → length (place_all Q legs).rows ≡ length Q.rows
  place_all-length Q [] = refl
  place_all-length Q (x ∷ legs) = place_all-length (after_placing I P p Q x) legs ∙ with_departure-length Q p x (first_departure I P Q p x)

  -- what becomes of a leg when it is placed
  placed_by : (Q R : PlanRows) (x : ℕ) (o : Option ℕ) → first_departure I P Q p x ≡ o → x < length Q.rows → row_at R x ≡ row_at (with_departure Q p x o) x → row_at Q x ≡ row_at P x → DepartsFirst I P Q R p x ⊎ KeepsItsRow I P Q R p x
  unfolding first_departure
  placed_by Q R x None is within there was =
      let none = first_within-none (max (ready_moment I Q p x (leg_before I P x)) (earliest I x)) (latest I x) (can_depart I Q p x) is in
      inr (record {
        row = there ∙ was;
        none = λ t may. true≢false (sym (may_can I P Q p x t may) ∙ none t (may_bounds I P Q p x t may) may.latest);
      })
  placed_by Q R x (Some t) is within there was =
      let first = first_within-holds (max (ready_moment I Q p x (leg_before I P x)) (earliest I x)) (latest I x) (can_depart I Q p x) t is in
      inl (record {
        dep = t;
        flown = there ∙ get_or-set_same Q.rows x _ Cancelled within;
        may = may_from I P Q p x t first.from first.to first.holds;
        first = λ s less may. true≢false (sym (may_can I P Q p x s may) ∙ first.first s (may_bounds I P Q p x s may) less);
      })

-- ---- the legs that are placed

pub pushed-ordered : (I : Situation) (P : PlanRows) (p : ℕ) (after : Option Leg) → AllPairs (Precedes P) (pushed_legs I P p after)
unfolding pushed_legs
pushed-ordered I P p after = AllPairs-filter (Precedes P) (λ x. not (fixed I x) && comes_after P after x) (rotation I P p) (rotation-ordered I P p)

comes_after-holds : (P : PlanRows) (o : Option Leg) (x : ℕ) (leg : Leg) → comes_after P o x ≡ true → o ≡ Some leg → Precedes P leg.0 x
comes_after-holds P None x leg holds is = absurd cc
comes_after-holds P (Some other) x leg holds is =
    let same : other ≡ leg = cc in
    subst (λ (l : Leg). Precedes P l.0 x) same (precedes-holds P other.0 x holds)

comes_after-from : (P : PlanRows) (o : Option Leg) (x : ℕ) → ((leg : Leg) → o ≡ Some leg → Precedes P leg.0 x) → comes_after P o x ≡ true
comes_after-from P None x further = refl
comes_after-from P (Some leg) x further = precedes-from P leg.0 x (further leg refl)

pushed_of : (I : Situation) (P : PlanRows) (p : ℕ) (after : Option Leg) (x : ℕ) → (x < legs_of I) × (flies P p x ≡ true) → (not (fixed I x) && comes_after P after x) ≡ true → IsPushed I P p after x
pushed_of I P p after x leg passes =
    let parts = and_parts (not (fixed I x)) (comes_after P after x) passes in
    record { leg = leg.0; dep = dep P x; flown = flies-holds P p x leg.1; movable = not-true (fixed I x) parts.0; is_later = λ l is. comes_after-holds P after x l parts.1 is }

both_all : {X : Type 0} (A B C : X → Type 0) → ((x : X) → A x → B x → C x) → (xs : List X) → All A xs → All B xs → All C xs
both_all A B C joined xs a b k d within = joined _ (a k d within) (b k d within)

pub pushed-all : (I : Situation) (P : PlanRows) (p : ℕ) (after : Option Leg) → All (IsPushed I P p after) (pushed_legs I P p after)
unfolding pushed_legs
pushed-all I P p after =
    let test : ℕ → Bool = λ x. not (fixed I x) && comes_after P after x in
    both_all (λ x. (x < legs_of I) × (flies P p x ≡ true)) (λ x. test x ≡ true) (IsPushed I P p after) (λ x leg passes. pushed_of I P p after x leg passes)
    (filter test (rotation I P p))
    (All-filter test (λ x. (x < legs_of I) × (flies P p x ≡ true)) (rotation I P p) (rotation-flown I P p))
    (filter_passes test (rotation I P p))

pub pushed-each : (I : Situation) (P : PlanRows) (p : ℕ) (after : Option Leg) (x : ℕ) → IsPushed I P p after x → Contains (pushed_legs I P p after) x
unfolding pushed_legs
pushed-each I P p after x is =
    Contains-filter (λ x. not (fixed I x) && comes_after P after x) (rotation I P p) x (rotation-each I P p x is.leg (flies-from P p x is.dep is.flown))
    (and_from (not (fixed I x)) (comes_after P after x) (not_from_false (fixed I x) is.movable) (comes_after-from P after x is.is_later))

-- ---- the step

not_in : (y : ℕ) (xs : List ℕ) → (Contains xs y → ⊥) → AllByRecursion (λ x. y ≡ x → ⊥) xs
not_in y xs none =
    recursion_from_All (λ x. y ≡ x → ⊥) xs (All-weaker (Contains xs) (λ x. y ≡ x → ⊥) (λ x has same. none (subst (Contains xs) (sym same) has)) xs (All-contains_itself xs))

pub after_push-groups : (I : Situation) (P : PlanRows) (p : ℕ) (after : Option Leg) → (after_push I P p after).groups ≡ P.groups
unfolding after_push
after_push-groups I P p after = place_all-groups I P p P (pushed_legs I P p after)

pub after_push-others : (I : Situation) (P : PlanRows) (p : ℕ) (after : Option Leg) (y : ℕ) → (IsPushed I P p after y → ⊥) → row_at (after_push I P p after) y ≡ row_at P y
unfolding after_push
after_push-others I P p after y none =
    place_all-other I P p P (pushed_legs I P p after) y (not_in y (pushed_legs I P p after) (λ has. none (All-contains (IsPushed I P p after) (pushed_legs I P p after) y (pushed-all I P p after) has)))

nothing_pushed : (I : Situation) (P : PlanRows) (p : ℕ) (xs : List ℕ) → AllByRecursion (λ (x : ℕ). ⊥) xs → place_all I P p P xs ≡ P
nothing_pushed I P p [] none = refl
nothing_pushed I P p (x ∷ xs) none = absurd none.0

-- a leg that the aircraft does not fly has none after it
pub after_push-other_plane : (I : Situation) (P : PlanRows) (p : ℕ) (leg : Leg) → ((d : ℕ) → Flies P leg.0 p d → ⊥) → after_push I P p (Some leg) ≡ P
unfolding after_push
after_push-other_plane I P p leg none =
    nothing_pushed I P p (pushed_legs I P p (Some leg))
    (recursion_from_All (λ (x : ℕ). ⊥) (pushed_legs I P p (Some leg))
    (All-weaker (IsPushed I P p (Some leg)) (λ (x : ℕ). ⊥)
    (λ x is.
    let before = is.is_later leg refl in
    let plane : before.plane ≡ p = flown_once P x before.plane p before.later is.dep before.second is.flown in
    none before.dep (subst (λ (q : ℕ). Flies P leg.0 q before.dep) plane before.first))
    (pushed_legs I P p (Some leg)) (pushed-all I P p (Some leg))))

apart : (P : PlanRows) (x y : ℕ) → Precedes P x y → x ≡ y → ⊥
apart P x y before same = precedes-itself P y (subst (λ (k : ℕ). Precedes P k y) same before)

-- a leg is placed in the plan as it stands then
places : (I : Situation) (P : PlanRows) (p : ℕ) (done : List ℕ) (x : ℕ) (rest : List ℕ) → AllPairs (Precedes P) (done ++ x ∷ rest) → x < length P.rows → PlacesLeg I P (place_all I P p P (done ++ x ∷ rest)) p done x
places I P p done x rest ordered within =
    let Q = place_all I P p P done in
    let R = place_all I P p P (done ++ x ∷ rest) in
    let whole : R ≡ place_all I P p Q (x ∷ rest) = fold-append (after_placing I P p) P done (x ∷ rest) in
    let across = pairs_across (Precedes P) done (x ∷ rest) ordered in
    let further : All (Precedes P x) rest = pairs_head (Precedes P) x rest (pairs_after (Precedes P) done (x ∷ rest) ordered) in
    let not_again : AllByRecursion (λ y. x ≡ y → ⊥) rest = recursion_from_All (λ y. x ≡ y → ⊥) rest (All-weaker (Precedes P x) (λ y. x ≡ y → ⊥) (λ y more. apart P x y more) rest further) in
    let not_before : AllByRecursion (λ y. x ≡ y → ⊥) done =
    recursion_from_All (λ y. x ≡ y → ⊥) done
    (All-weaker (λ y. All (Precedes P y) (x ∷ rest)) (λ y. x ≡ y → ⊥)
    (λ y all same. apart P y x (let lt : 0 < length (x ∷ rest) = omega arith in all 0 x lt) (sym same)) done across) in
    let was : row_at Q x ≡ row_at P x = place_all-other I P p P done x not_before in
    let there : row_at R x ≡ row_at (after_placing I P p Q x) x = ap (λ (S : PlanRows). row_at S x) whole ∙ place_all-other I P p (after_placing I P p Q x) rest x not_again in
    let room : x < length Q.rows = let same = place_all-length I P p P done in omega (arith, same, within) in
    record {
      plan = Q;
      earlier = All-weaker (λ y. All (Precedes P y) (x ∷ rest)) (λ y. row_at Q y ≡ row_at R y)
          (λ y all. sym (ap (λ (S : PlanRows). row_at S y) whole
          ∙ place_all-other I P p Q (x ∷ rest) y (recursion_from_All (λ z. y ≡ z → ⊥) (x ∷ rest) (All-weaker (Precedes P y) (λ z. y ≡ z → ⊥) (λ z more. apart P y z more) (x ∷ rest) all))))
          done across;
      later = λ y none. place_all-other I P p P done y (not_in y done none);
      groups = place_all-groups I P p P done;
      placed = placed_by I P p Q R x (first_departure I P Q p x) refl room there was;
    }

pub after_push-places : (I : Situation) (P : PlanRows) (p : ℕ) (after : Option Leg) (done : List ℕ) (x : ℕ) (rest : List ℕ) → IsPlanFor I P → pushed_legs I P p after ≡ done ++ x ∷ rest → PlacesLeg I P (after_push I P p after) p done x
unfolding after_push
after_push-places I P p after done x rest plan is =
    let pushed : All (IsPushed I P p after) (x ∷ rest) = All-suffix (IsPushed I P p after) done (x ∷ rest) (subst (All (IsPushed I P p after)) is (pushed-all I P p after)) in
    let own : IsPushed I P p after x = pushed 0 x (omega arith) in
    let within : x < length P.rows = let legs = plan.legs in let leg = own.leg in omega (arith, legs, leg) in
    subst (λ (xs : List ℕ). PlacesLeg I P (place_all I P p P xs) p done x) (sym is)
    (places I P p done x rest (subst (AllPairs (Precedes P)) is (pushed-ordered I P p after)) within)

-- ---- a valid plan stays valid

with_departure-valid : (I : Situation) (Q : PlanRows) (p x : ℕ) (o : Option ℕ) → p < planes_of I → ((t : ℕ) → o ≡ Some t → t < 52500000) → IsPlanFor I Q → IsPlanFor I (with_departure Q p x o)
with_departure-valid I Q p x None plane below plan = plan
with_departure-valid I Q p x (Some t) plane below plan = with_row-valid I Q x (Flown (record { 0 = p }) (record { 0 = t })) (plane, below t refl) plan

first_departure-lt : (I : Situation) (P Q : PlanRows) (p x t : ℕ) → IsValid I → first_departure I P Q p x ≡ Some t → t < 52500000
unfolding first_departure
first_departure-lt I P Q p x t valid is =
    let first = first_within-holds (max (ready_moment I Q p x (leg_before I P x)) (earliest I x)) (latest I x) (can_depart I Q p x) t is in
    let to = first.to in
    omega (arith, to, latest-lt I x valid)

place_all-valid : (I : Situation) (P : PlanRows) (p : ℕ) (Q : PlanRows) (legs : List ℕ) → IsValid I → p < planes_of I → IsPlanFor I Q → IsPlanFor I (place_all I P p Q legs)
place_all-valid I P p Q [] valid plane plan = plan
place_all-valid I P p Q (x ∷ legs) valid plane plan =
    place_all-valid I P p (after_placing I P p Q x) legs valid plane
    (with_departure-valid I Q p x (first_departure I P Q p x) plane (λ t is. first_departure-lt I P Q p x t valid is) plan)

pub after_push-valid : (I : Situation) (P : PlanRows) (p : ℕ) (after : Option Leg) → IsValid I → p < planes_of I → IsPlanFor I P → IsPlanFor I (after_push I P p after)
unfolding after_push
after_push-valid I P p after valid plane plan = place_all-valid I P p P (pushed_legs I P p after) valid plane plan

-- ---- a push keeps the aircraft of each leg

placing-plane : (I : Situation) (Q : PlanRows) (p y x q d : ℕ) (o : Option ℕ) → (y ≡ x → q ≡ p) → Flies Q y q d → IsFlownBy (with_departure Q p x o) y q
placing-plane I Q p y x q d None same flown = record { dep = d; flown = flown }
placing-plane I Q p y x q d (Some t) same flown =
    elim (cases_eq y x) [
      | inl own ↦ elim (cases_lt y (length Q.rows)) [
        | inl within ↦
            let at : x < length Q.rows = subst (λ (k : ℕ). k < length Q.rows) own within in
            let there : row_at (with_departure Q p x (Some t)) x ≡ Flown (record { 0 = p }) (record { 0 = t }) = get_or-set_same Q.rows x _ Cancelled at in
            record {
              dep = t;
              flown = ap (row_at (with_departure Q p x (Some t))) own ∙ there ∙ ap (λ (k : ℕ). Flown (record { 0 = k }) (record { 0 = t })) (sym (same own));
            }
        | inr past ↦ (let none = sym (get_or_past Q.rows y Cancelled past) ∙ flown in absurd cc)
      ]
      | inr other ↦ record { dep = d; flown = with_departure-other Q p x y (Some t) other ∙ flown }
    ]

place_all-plane : (I : Situation) (P : PlanRows) (p : ℕ) (Q : PlanRows) (legs : List ℕ) (y q : ℕ) → AllByRecursion (λ x. y ≡ x → q ≡ p) legs → IsFlownBy Q y q → IsFlownBy (place_all I P p Q legs) y q
place_all-plane I P p Q [] y q same flown = flown
place_all-plane I P p Q (x ∷ legs) y q same flown =
    place_all-plane I P p (after_placing I P p Q x) legs y q same.1
    (placing-plane I Q p y x q flown.dep (first_departure I P Q p x) same.0 flown.flown)

pub after_push-plane : (I : Situation) (P : PlanRows) (p : ℕ) (after : Option Leg) (y q : ℕ) → IsFlownBy P y q → IsFlownBy (after_push I P p after) y q
unfolding after_push
after_push-plane I P p after y q flown =
    place_all-plane I P p P (pushed_legs I P p after) y q
    (recursion_from_All (λ x. y ≡ x → q ≡ p) (pushed_legs I P p after)
    (All-weaker (IsPushed I P p after) (λ x. y ≡ x → q ≡ p)
    (λ x is same. flown_once P x q p flown.dep is.dep (subst (λ (k : ℕ). Flies P k q flown.dep) same flown.flown) is.flown)
    (pushed_legs I P p after) (pushed-all I P p after)))
    flown

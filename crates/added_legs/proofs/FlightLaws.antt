-- The last legs of aircraft, and their added legs.
use Rattle.std.proofs.Common.{◌≡◌, ◌≢◌, ℕ, ◌+◌, ◌<◌, ◌⊎◌, inl, inr, Bool, true, false, not, cond, eqb, ltb, List, [], ◌∷◌, length, get_or, set, take, refl, sym, ap, subst, ◌∙◌, arith}
use Rattle.std.specs.Prelude.{Option, Some, None, find, is_some, min, ◌^◌, ◌-◌}
use Rattle.std.specs.Option.{ForSome, option_map, option_or}
use Rattle.std.proofs.lemmas.Bool.{true≢false, and_parts, and_cases, ltb-false, eq-eqb, ne_eqb, cases_eq}
use Rattle.std.proofs.lemmas.List.{take_more, get_or-set_same, get_or-set_other, length-set}
use Rattle.std.proofs.lemmas.List.Folds.{find-append}
use Rattle.desk_units.specs.declared.numbers.Leg.{Leg}
use Rattle.desk_data.specs.Situation.{Situation, legs_of, planes_of}
use Rattle.desk_data.specs.PlanRows.{PlanRows}
use Rattle.desk_data.specs.declared.row.Row.{Row}
use Rattle.desk_data.specs.declared.row.Row.TheVariants.{Flown, Cancelled}
use Rattle.desk_data.specs.Valid.{IsPlanFor}
use Rattle.desk_rules.specs.Rotations.{dep, precedes}
use Rattle.desk_rules.specs.Maintenance.{flies, departs_before}
use Rattle.desk_rules.specs.Words.{Flies, Precedes}
use Rattle.desk_rules.proofs.Tests.{none_below-from}
use Rattle.desk_rules.proofs.HourLaws.{dep-lt}
use Rattle.desk_rules.proofs.RotationLaws.{precedes-holds}
use Rattle.desk_rules.proofs.MaintenanceLaws.{flies-holds, dep-is, departs_before-from}
use Rattle.plan_reads.specs.Last.{IsLastOf, AreLasts}
use Rattle.plan_reads.proofs.LastLaws.{last_in}
use Rattle.plan_reads.proofs.OrderLaws.{not_both}
use Rattle.added_legs.specs.declared.added.Added.{Added}
use Rattle.added_legs.specs.Merged.{last_leg, added_for}
use Rattle.added_legs.proofs.AddedEndLaws.{last_found, none_found}
use Rattle.added_legs.specs.declared.flight.Flight.{Flight}
use Rattle.added_legs.specs.Flights.{AreLastLegs, flight_of, IsFlight, departure_end, AreRanges, AreFlights}

pub none_is : {X : Type 0} (o : Option X) (b : Bool) → is_some o ≡ not b → b ≡ true → o ≡ None
none_is None b said is = refl
none_is (Some x) b said is = absurd (true≢false (said ∙ ap not is))

pub some_is : {X : Type 0} (o : Option X) (b : Bool) → is_some o ≡ not b → b ≡ false → (x : X) × (o ≡ Some x)
some_is None b said is = absurd (true≢false (sym (said ∙ ap not is)))
some_is (Some x) b said is = (x, refl)

-- ---- the last leg

flies_not : (I : Situation) (P : PlanRows) (p x : ℕ) → IsPlanFor I P → departs_before P p 52500000 x ≡ false → flies P p x ≡ false
flies_not I P p x plan not_early =
    elim (and_cases (flies P p x) (ltb (dep P x) 52500000) not_early) [
      | inl off ↦ off
      | inr late ↦ let le = ltb-false (dep P x) 52500000 late in absurd (omega (arith, le, dep-lt I P x plan))
    ]

row_plane : Row → ℕ
row_plane (Flown p d) = p.0
row_plane Cancelled = 0

plane_is : (P : PlanRows) (x p d q e : ℕ) → Flies P x p d → Flies P x q e → q ≡ p
unfolding row_plane
plane_is P x p d q e one other = ap row_plane (sym other ∙ one)

later_departs : (I : Situation) (P : PlanRows) (p x z d : ℕ) → IsPlanFor I P → Flies P x p d → Precedes P x z → departs_before P p 52500000 z ≡ true
later_departs I P p x z d plan flown before =
    let other : Flies P z p before.later = subst (λ (q : ℕ). Flies P z q before.later) (plane_is P x p d before.plane before.dep flown before.first) before.second in
    departs_before-from P p 52500000 z before.later other (omega (arith, dep-is P p z before.later other, dep-lt I P z plan))

last_is : (I : Situation) (P : PlanRows) (p : ℕ) (last : Option Leg) → IsPlanFor I P → IsLastOf P p 52500000 (legs_of I) last → last_leg I P p ≡ last
last_is I P p None plan h = none_found I P p (λ x lt. flies_not I P p x plan (h x lt))
last_is I P p (Some l) plan h =
    let on : Flies P l.0 p (dep P l.0) = flies-holds P p l.0 (and_parts (flies P p l.0) (ltb (dep P l.0) 52500000) h.before).0 in
    last_found I P p l.0 (dep P l.0) h.within on
    (none_below-from (legs_of I) (λ z. precedes P l.0 z) (λ z lt before.
    not_both (precedes P l.0 z) before (h.last z lt (later_departs I P p l.0 z (dep P l.0) plan on (precedes-holds P l.0 z before)))))

pub are_last : (I : Situation) (P : PlanRows) (lasts : List (Option Leg)) → IsPlanFor I P → AreLasts I P (λ p. 52500000) (legs_of I) lasts → AreLastLegs I P lasts
are_last I P lasts plan h = record {
  planes = h.planes;
  each = λ p lt. last_is I P p (get_or lasts p None) plan (h.each p lt);
  within = λ p lt. last_in I P p 52500000 (get_or lasts p None) (h.each p lt);
}

-- ---- added legs by aircraft

-- one more of the list
for_more : (A : List Added) (i q : ℕ) (a : Added) → i < length A → a ≡ get_or A i a → added_for (take (i + 1) A) q ≡ option_or (added_for (take i A) q) (cond (eqb a.plane.0 q) (Some a) None)
unfolding added_for
for_more A i q a lt is =
    ap (find (λ (b : Added). eqb b.plane.0 q)) (take_more A i a lt)
    ∙ find-append (λ (b : Added). eqb b.plane.0 q) (take i A) (get_or A i a ∷ [])
    ∙ ap (λ (b : Added). option_or (find (λ (b : Added). eqb b.plane.0 q) (take i A)) (cond (eqb b.plane.0 q) (Some b) None)) (sym is)

or_none : {X : Type 0} (o : Option X) → option_or o None ≡ o
or_none None = refl
or_none (Some x) = refl

or_some : {X : Type 0} (o r : Option X) (x : X) → o ≡ Some x → option_or o r ≡ o
or_some None r x is = absurd cc
or_some (Some y) r x is = refl

some_before : {X Y : Type 0} (f : X → Y) (o : Option X) (y : Y) → option_map f o ≡ Some y → (x : X) × (o ≡ Some x)
some_before f None y is = absurd cc
some_before f (Some x) y is = (x, refl)

none_before : {X Y : Type 0} (f : X → Y) (o : Option X) → option_map f o ≡ None → o ≡ None
none_before f None is = refl
none_before f (Some x) is = absurd cc

-- another aircraft has the added leg that it had
for_other : (A : List Added) (i q : ℕ) (a : Added) → i < length A → a ≡ get_or A i a → q ≢ a.plane.0 → added_for (take (i + 1) A) q ≡ added_for (take i A) q
for_other A i q a lt is apart =
    for_more A i q a lt is
    ∙ ap (λ (b : Bool). option_or (added_for (take i A) q) (cond b (Some a) None)) (ne_eqb a.plane.0 q (λ same. apart (sym same)))
    ∙ or_none (added_for (take i A) q)

-- the aircraft had one
for_had : (A : List Added) (i q : ℕ) (a b : Added) → i < length A → a ≡ get_or A i a → added_for (take i A) q ≡ Some b → added_for (take (i + 1) A) q ≡ added_for (take i A) q
for_had A i q a b lt is had =
    for_more A i q a lt is ∙ or_some (added_for (take i A) q) (cond (eqb a.plane.0 q) (Some a) None) b had

-- the aircraft had none
for_new : (A : List Added) (i : ℕ) (a : Added) → i < length A → a ≡ get_or A i a → added_for (take i A) a.plane.0 ≡ None → added_for (take (i + 1) A) a.plane.0 ≡ Some a
for_new A i a lt is none =
    for_more A i a.plane.0 a lt is
    ∙ ap (λ (o : Option Added). option_or o (cond (eqb a.plane.0 a.plane.0) (Some a) None)) none
    ∙ ap (λ (b : Bool). cond b (Some a) None) (eq-eqb a.plane.0 a.plane.0 refl)

pub no_flights : (I : Situation) (P : PlanRows) (flights : List (Option Flight)) → length flights ≡ planes_of I → ((p : ℕ) → p < planes_of I → get_or flights p None ≡ None) → AreFlights I P [] flights
unfolding added_for
no_flights I P flights all none = record {
  each = none;
  ranges = record { planes = all; each = λ p lt f is. (let off : get_or flights p None ≡ None = none p lt in absurd cc) };
}

-- the aircraft of the next one has one
pub kept : (I : Situation) (P : PlanRows) (A : List Added) (i : ℕ) (a : Added) (flights : List (Option Flight)) (f : Flight) → i < length A → a ≡ get_or A i a → a.plane.0 < planes_of I → get_or flights a.plane.0 None ≡ Some f → AreFlights I P (take i A) flights → AreFlights I P (take (i + 1) A) flights
kept I P A i a flights f lt is within had h = record {
  each = λ q below. elim (cases_eq q a.plane.0) [
    | inr apart ↦ h.each q below ∙ ap (option_map (flight_of I P q)) (sym (for_other A i q a lt is apart))
    | inl same ↦
        let here : get_or flights q None ≡ Some f = ap (λ (k : ℕ). get_or flights k None) same ∙ had in
        let one = some_before (flight_of I P q) (added_for (take i A) q) f (sym (h.each q below) ∙ here) in
        h.each q below ∙ ap (option_map (flight_of I P q)) (sym (for_had A i q a one.0 lt is one.1))
  ];
  ranges = h.ranges;
}

range_at : (I : Situation) (flights : List (Option Flight)) (p : ℕ) (f : Flight) → p < planes_of I → IsFlight I f → AreRanges I flights → (q : ℕ) → q < planes_of I → (q ≡ p) ⊎ (q ≡ p → ⊥) → ForSome (get_or (set flights p (Some f)) q None) (IsFlight I)
range_at I flights p f within good h q below (inl same) =
    let there : p < length flights = omega (arith, h.planes, within) in
    let at : get_or (set flights p (Some f)) q None ≡ Some f = ap (λ (k : ℕ). get_or (set flights p (Some f)) k None) same ∙ get_or-set_same flights p (Some f) None there in
    λ g is. (let one : f ≡ g = cc in subst (IsFlight I) one good)
range_at I flights p f within good h q below (inr apart) =
    let at : get_or (set flights p (Some f)) q None ≡ get_or flights q None = get_or-set_other flights p q (Some f) None apart in
    λ g is. h.each q below g (sym at ∙ is)

-- the aircraft of the next one has none
pub written : (I : Situation) (P : PlanRows) (A : List Added) (i : ℕ) (a : Added) (flights : List (Option Flight)) (f : Flight) → i < length A → a ≡ get_or A i a → a.plane.0 < planes_of I → get_or flights a.plane.0 None ≡ None → f ≡ flight_of I P a.plane.0 a → IsFlight I f → AreFlights I P (take i A) flights → AreFlights I P (take (i + 1) A) (set flights a.plane.0 (Some f))
written I P A i a flights f lt is within none said good h =
    let there : a.plane.0 < length flights = omega (arith, h.ranges.planes, within) in
    record {
      each = λ q below. elim (cases_eq q a.plane.0) [
        | inr apart ↦
            get_or-set_other flights a.plane.0 q (Some f) None apart
            ∙ h.each q below ∙ ap (option_map (flight_of I P q)) (sym (for_other A i q a lt is apart))
        | inl same ↦
            let had : added_for (take i A) a.plane.0 ≡ None = none_before (flight_of I P a.plane.0) (added_for (take i A) a.plane.0) (sym (h.each a.plane.0 within) ∙ none) in
            subst (λ (k : ℕ). get_or (set flights a.plane.0 (Some f)) k None ≡ option_map (flight_of I P k) (added_for (take (i + 1) A) k)) (sym same)
            (get_or-set_same flights a.plane.0 (Some f) None there ∙ ap Some said
            ∙ ap (option_map (flight_of I P a.plane.0)) (sym (for_new A i a lt is had)))
      ];
      ranges = record {
        planes = length-set flights a.plane.0 (Some f) ∙ h.ranges.planes;
        each = λ q below. range_at I flights a.plane.0 f within good h.ranges q below (cases_eq q a.plane.0);
      };
    }

-- ---- what the added leg of an aircraft says of the list

some_of : (I : Situation) (P : PlanRows) (p : ℕ) (f : Flight) (o : Option Added) → Some f ≡ option_map (flight_of I P p) o → (a : Added) × (o ≡ Some a) × (f ≡ flight_of I P p a)
some_of I P p f None is = absurd cc
some_of I P p f (Some a) is = (a, refl, cc)

-- an aircraft that has an added leg has one in the list
pub added_some : (I : Situation) (P : PlanRows) (A : List Added) (flights : List (Option Flight)) (p : ℕ) (f : Flight) → AreFlights I P A flights → p < planes_of I → get_or flights p None ≡ Some f → (a : Added) × (added_for A p ≡ Some a) × (f ≡ flight_of I P p a)
added_some I P A flights p f g lt is = some_of I P p f (added_for A p) (sym is ∙ g.each p lt)

pub added_none : (I : Situation) (P : PlanRows) (A : List Added) (flights : List (Option Flight)) (p : ℕ) → AreFlights I P A flights → p < planes_of I → get_or flights p None ≡ None → added_for A p ≡ None
added_none I P A flights p g lt is = none_before (flight_of I P p) (added_for A p) (sym (g.each p lt) ∙ is)

-- the last leg before the minute after an added leg departs
pub earlier_of : (I : Situation) (P : PlanRows) (A : List Added) (flights : List (Option Flight)) (p : ℕ) (a : Added) (earlier : Option Leg) → AreFlights I P A flights → p < planes_of I → added_for A p ≡ Some a → (f : Flight) → get_or flights p None ≡ Some f → IsLastOf P p (departure_end (get_or flights p None)) (legs_of I) earlier → IsLastOf P p (a.dep.0 + 1) (legs_of I) earlier
earlier_of I P A flights p a earlier g lt is f had h =
    let range = g.ranges.each p lt f had in
    let same : f ≡ flight_of I P p a = (let one : Some f ≡ Some (flight_of I P p a) = sym had ∙ g.each p lt ∙ ap (option_map (flight_of I P p)) is in cc) in
    let at : f.dep.0 ≡ a.dep.0 = ap (λ (f : Flight). f.dep.0) same in
    let end : departure_end (get_or flights p None) ≡ a.dep.0 + 1 = ap departure_end had ∙ (let e : min (f.dep.0 + 1) (2 ^ 32 - 1) ≡ a.dep.0 + 1 = omega (arith, range.departs, at) in e) in
    subst (λ (k : ℕ). IsLastOf P p k (legs_of I) earlier) end h

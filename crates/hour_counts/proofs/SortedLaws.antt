-- The sorted rotation legs of an aircraft are its legs in their order.
use Rattle.std.proofs.Common.{◌≡◌, ℕ, zero, suc, ◌<◌, ◌⊎◌, inl, inr, true, false, eqb, List, [], ◌∷◌, ◌++◌, length, get_or, map, refl, sym, ap, subst, ◌∙◌, arith, is_lt, nat_cmp}
use Rattle.std.specs.Prelude.{filter}
use Rattle.std.specs.List.{All, AllPairs, Contains, IsDistinct}
use Rattle.std.specs.List.Sorted.{IsSorted, IsPermutation}
use Rattle.std.specs.Cmp.{IsTotalOrder, nat_cmp_total, nat_eq_equiv}
use Rattle.std.specs.Ordering.{ordering_then}
use Rattle.std.specs.declared.cmp.Ordering.{Ordering}
use Rattle.std.proofs.lemmas.Bool.{cases_Bool}
use Rattle.std.proofs.lemmas.Bool.Decides.{nat_tests}
use Rattle.std.proofs.lemmas.Cmp.{then_total, on_total}
use Rattle.std.proofs.lemmas.List.{append-nil, get_or-map, length-map, map-id}
use Rattle.std.proofs.lemmas.Simd.{map-map}
use Rattle.std.proofs.lemmas.List.Elements.{All-nil, All-cons, All-append, All-weaker, All-filter, All-map, All-contains, filter_passes, filter-append, Contains-append_left, Contains-push}
use Rattle.std.proofs.lemmas.List.Folds.{list_any_none}
use Rattle.std.proofs.lemmas.List.Sorted.{ranks_by, sorted_far, All-permutation, Contains-permutation, IsPermutation-map}
use Rattle.std.proofs.lemmas.Map.Keys.{IsDistinct-push, IsDistinct-IsPermutation, apart_from_distinct}
use Rattle.desk_units.specs.declared.numbers.Leg.{Leg}
use Rattle.desk_data.specs.Situation.{Situation, legs_of}
use Rattle.desk_data.specs.PlanRows.{PlanRows}
use Rattle.desk_rules.specs.Numbers.{numbers}
use Rattle.desk_rules.specs.Rotations.{dep, precedes}
use Rattle.desk_rules.specs.Maintenance.{flies}
use Rattle.desk_rules.specs.Words.{Flies, Precedes}
use Rattle.desk_rules.proofs.RotationLaws.{precedes-holds}
use Rattle.desk_rules.proofs.MaintenanceLaws.{flies-holds}
use Rattle.plan_reads.proofs.OrderLaws.{in_order}
use Rattle.desk_model.specs.Push.{rotation}
use Rattle.desk_model.proofs.RotationOrder.{Contains-filter, rotation-ordered, rotation-flown, rotation-each}
use Rattle.plan_reads.specs.declared.rotation_leg.RotationLeg.{RotationLeg}
use Rattle.hour_counts.specs.Flown.{flown_legs}
use Rattle.hour_counts.specs.RotationLegs.{rotation_leg}
use Rattle.hour_counts.proofs.AgreeLaws.{same_ordered}

-- ---- the legs of an aircraft, by leg

abbrev flown : PlanRows → ℕ → ℕ → List ℕ
flown P p n = filter (flies P p) (numbers n)

numbers-below : (n : ℕ) → All (λ x. x < n) (numbers n)
numbers-below zero = All-nil (λ x. x < 0)
numbers-below (suc n) =
    All-append (λ x. x < suc n) (numbers n) (n ∷ [])
    (All-weaker (λ x. x < n) (λ x. x < suc n) (λ x lt. omega (arith, lt)) (numbers n) (numbers-below n))
    (All-cons (λ x. x < suc n) n [] (omega arith) (All-nil (λ x. x < suc n)))

numbers-each : (n x : ℕ) → x < n → Contains (numbers n) x
numbers-each zero x lt = absurd (omega (arith, lt))
numbers-each (suc n) x lt =
    let cases : (x < n) ⊎ (n ≡ x) = grind (arith, lt) in
    elim cases [
      | inl less ↦ Contains-append_left (numbers n) (n ∷ []) x (numbers-each n x less)
      | inr last ↦ subst (Contains (numbers n ++ n ∷ [])) last (Contains-push (numbers n) n)
    ]

not_below : (n x : ℕ) → x < n → eqb n x ≡ false
not_below n x h = grind (arith, nat_tests)

flown-apart : (P : PlanRows) (p n : ℕ) → IsDistinct eqb (flown P p n)
unfolding IsDistinct
flown-apart P p zero = tt
flown-apart P p (suc n) =
    let parts = filter-append (flies P p) (numbers n) (n ∷ []) in
    elim (cases_Bool (flies P p n)) [
      | inl here ↦ subst (IsDistinct eqb) (sym (parts ∙ rw here refl))
          (IsDistinct-push nat_eq_equiv (flown P p n) n (flown-apart P p n)
          (list_any_none (eqb n) (flown P p n) (All-weaker (λ x. x < n) (λ x. eqb n x ≡ false) (λ x lt. not_below n x lt) (flown P p n) (All-filter (flies P p) (λ x. x < n) (numbers n) (numbers-below n)))))
      | inr gone ↦ subst (IsDistinct eqb) (sym (parts ∙ rw gone (append-nil (flown P p n)))) (flown-apart P p n)
    ]

-- ---- their rotation legs

abbrev rotation_legs : PlanRows → ℕ → ℕ → List RotationLeg
rotation_legs P p n = map (rotation_leg P) (flown P p n)

abbrev pub leg_of : RotationLeg → ℕ
leg_of t = t.leg.0

-- t is the rotation leg of one of the first n legs, which aircraft p flies
record IsRotationLeg (P : PlanRows) (p n : ℕ) (t : RotationLeg) : Type 0 where
  within : t.leg.0 < n
  flown : flies P p t.leg.0 ≡ true
  departs : t.dep.0 ≡ dep P t.leg.0

rotation_legs-sound : (P : PlanRows) (p n : ℕ) → All (IsRotationLeg P p n) (rotation_legs P p n)
rotation_legs-sound P p n =
    let below = All-filter (flies P p) (λ x. x < n) (numbers n) (numbers-below n) in
    let passed = filter_passes (flies P p) (numbers n) in
    All-map (IsRotationLeg P p n) (rotation_leg P) (flown P p n) (λ k d lt. record { within = below k d lt; flown = passed k d lt; departs = refl })

rotation_legs-legs : (P : PlanRows) (p n : ℕ) → map leg_of (rotation_legs P p n) ≡ flown P p n
rotation_legs-legs P p n = map-map leg_of (rotation_leg P) (flown P p n) ∙ map-id (flown P p n)

-- ---- sorted

abbrev rotation_leg_cmp : RotationLeg → RotationLeg → Ordering
rotation_leg_cmp s t = ordering_then (nat_cmp s.dep.0 t.dep.0) (nat_cmp s.leg.0 t.leg.0)

rotation_leg_total : IsTotalOrder rotation_leg_cmp
rotation_leg_total = then_total (on_total (λ t. t.dep.0) nat_cmp_total) (on_total (λ t. t.leg.0) nat_cmp_total)

ordered_so : (p x d y e : ℕ) → is_lt (ordering_then (nat_cmp e d) (nat_cmp y x)) ≡ false → eqb x y ≡ false → in_order p x d p y e ≡ true
ordered_so p x d y e h apart = grind (arith, nat_tests)

precedes_at : (P : PlanRows) (p x d y e : ℕ) → Flies P x p d → Flies P y p e → in_order p x d p y e ≡ true → precedes P x y ≡ true
precedes_at P p x d y e first second h = rw (first, second) h

-- the rotation leg at a place, and else a rotation leg of nothing
abbrev no_rotation_leg : RotationLeg
no_rotation_leg = record { dep = record { 0 = 0 }; leg = record { 0 = 0 } }

abbrev rotation_leg_in : List RotationLeg → ℕ → RotationLeg
rotation_leg_in ts k = get_or ts k no_rotation_leg

rising : (P : PlanRows) (p n : ℕ) (ts : List RotationLeg) → All (IsRotationLeg P p n) ts → IsSorted rotation_leg_cmp ts → IsDistinct eqb (map leg_of ts) → (i j : ℕ) → i < j → j < length ts → Precedes P (rotation_leg_in ts i).leg.0 (rotation_leg_in ts j).leg.0
rising P p n ts sound up apart i j less within =
    let s = rotation_leg_in ts i in
    let t = rotation_leg_in ts j in
    let in_i : i < length ts = omega (arith, less, within) in
    let of_s : IsRotationLeg P p n s = sound i no_rotation_leg in_i in
    let of_t : IsRotationLeg P p n t = sound j no_rotation_leg within in
    let x = s.leg.0 in
    let y = t.leg.0 in
    let far : is_lt (rotation_leg_cmp t s) ≡ false = sorted_far (λ s t. is_lt (rotation_leg_cmp s t)) (ranks_by rotation_leg_total (λ t. t)) ts up i j no_rotation_leg (omega (arith, less)) within in
    let cmp : is_lt (ordering_then (nat_cmp (dep P y) (dep P x)) (nat_cmp y x)) ≡ false = rw (sym of_s.departs, sym of_t.departs) far in
    let long : j < length (map leg_of ts) = rw (length-map ts leg_of) within in
    let other : eqb x y ≡ false =
    subst (λ (k : ℕ). eqb x k ≡ false) (get_or-map leg_of ts j no_rotation_leg 0 within)
    (subst (λ (k : ℕ). eqb k (get_or (map leg_of ts) j 0) ≡ false) (get_or-map leg_of ts i no_rotation_leg 0 in_i) (apart_from_distinct eqb (map leg_of ts) i j 0 apart less long)) in
    precedes-holds P x y (precedes_at P p x (dep P x) y (dep P y) (flies-holds P p x of_s.flown) (flies-holds P p y of_t.flown) (ordered_so p x (dep P x) y (dep P y) cmp other))

-- the rotation legs of all legs of the aircraft, sorted
record AreSorted (P : PlanRows) (p n : ℕ) (ts : List RotationLeg) : Type 0 where
  sound : All (IsRotationLeg P p n) ts
  ordered : AllPairs (Precedes P) (map leg_of ts)
  each : (x : ℕ) → x < n → flies P p x ≡ true → Contains (map leg_of ts) x

sorted : (P : PlanRows) (p n : ℕ) (made ts : List RotationLeg) → made ≡ rotation_legs P p n → IsPermutation made ts → IsSorted rotation_leg_cmp ts → AreSorted P p n ts
sorted P p n made ts is shuffled up =
    let moved : IsPermutation (rotation_legs P p n) ts = subst (λ xs. IsPermutation xs ts) is shuffled in
    let legs : IsPermutation (flown P p n) (map leg_of ts) = subst (λ (xs : List ℕ). IsPermutation xs (map leg_of ts)) (rotation_legs-legs P p n) (IsPermutation-map leg_of (rotation_legs P p n) ts moved) in
    let sound = All-permutation (IsRotationLeg P p n) (rotation_legs P p n) ts moved (rotation_legs-sound P p n) in
    let apart = IsDistinct-IsPermutation eqb nat_eq_equiv.symm (flown P p n) (map leg_of ts) legs (flown-apart P p n) in
    record {
      sound = sound;
      ordered = λ i j d less within.
          let in_j : j < length ts = rw (sym (length-map ts leg_of)) within in
          let in_i : i < length ts = omega (arith, less, in_j) in
          rw (get_or-map leg_of ts i no_rotation_leg d in_i, get_or-map leg_of ts j no_rotation_leg d in_j) (rising P p n ts sound up apart i j less in_j);
      each = λ x lt here. Contains-permutation (flown P p n) (map leg_of ts) x legs (Contains-filter (flies P p) (numbers n) x (numbers-each n x lt) here);
    }

rotation-sorted : (I : Situation) (P : PlanRows) (p : ℕ) (made ts : List RotationLeg) → made ≡ rotation_legs P p (legs_of I) → IsPermutation made ts → IsSorted rotation_leg_cmp ts → map leg_of ts ≡ rotation I P p
rotation-sorted I P p made ts is shuffled up =
    let own = sorted P p (legs_of I) made ts is shuffled up in
    same_ordered P (map leg_of ts) (rotation I P p) own.ordered (rotation-ordered I P p)
    (λ z has.
    let sound = All-contains (λ x. (x < legs_of I) × (flies P p x ≡ true)) (map leg_of ts) z (All-map (λ x. (x < legs_of I) × (flies P p x ≡ true)) leg_of ts (λ k d lt. (let s = own.sound k d lt in (s.within, s.flown)))) has in
    rotation-each I P p z sound.0 sound.1)
    (λ z has.
    let here = All-contains (λ x. (x < legs_of I) × (flies P p x ≡ true)) (rotation I P p) z (rotation-flown I P p) has in
    own.each z here.0 here.1)

pub sorted-rotation : (I : Situation) (P : PlanRows) (p : ℕ) (legs : List Leg) (made ts : List RotationLeg) → map (λ (leg : Leg). leg.0) legs ≡ flown_legs I P p → made ≡ map (λ (leg : Leg). rotation_leg P leg.0) legs → IsPermutation made ts → IsSorted rotation_leg_cmp ts → map leg_of ts ≡ rotation I P p
sorted-rotation I P p legs made ts are is =
    rotation-sorted I P p made ts (is ∙ sym (map-map (rotation_leg P) (λ (leg : Leg). leg.0) legs) ∙ ap (map (rotation_leg P)) are)

pub sorted-within : (P : PlanRows) (n : ℕ) (legs : List Leg) (made ts : List RotationLeg) → All (λ (leg : Leg). leg.0 < n) legs → made ≡ map (λ (leg : Leg). rotation_leg P leg.0) legs → IsPermutation made ts → All (λ (t : RotationLeg). t.leg.0 < n) ts
sorted-within P n legs made ts within is shuffled =
    All-permutation (λ (t : RotationLeg). t.leg.0 < n) made ts shuffled (subst (All (λ (t : RotationLeg). t.leg.0 < n)) (sym is) (All-map (λ (t : RotationLeg). t.leg.0 < n) (λ (leg : Leg). rotation_leg P leg.0) legs within))

-- the legs of an aircraft are legs of the day
pub flown-within : (I : Situation) (P : PlanRows) (p : ℕ) (legs : List Leg) → map (λ (leg : Leg). leg.0) legs ≡ flown_legs I P p → All (λ (leg : Leg). leg.0 < legs_of I) legs
flown-within I P p legs are = λ k d lt.
    let below = All-filter (flies P p) (λ x. x < legs_of I) (numbers (legs_of I)) (numbers-below (legs_of I)) in
    let each : All (λ x. x < legs_of I) (map (λ (leg : Leg). leg.0) legs) = subst (All (λ x. x < legs_of I)) (sym are) below in
    let long : k < length (map (λ (leg : Leg). leg.0) legs) = rw (length-map legs (λ (leg : Leg). leg.0)) lt in
    subst (λ (x : ℕ). x < legs_of I) (get_or-map (λ (leg : Leg). leg.0) legs k d 0 lt) (each k 0 long)

-- and so they are in their order
pub rotation-within : (I : Situation) (P : PlanRows) (p : ℕ) (legs : List Leg) → map (λ (leg : Leg). leg.0) legs ≡ rotation I P p → All (λ (leg : Leg). leg.0 < legs_of I) legs
rotation-within I P p legs are = λ k d lt.
    let below = All-weaker (λ x. (x < legs_of I) × (flies P p x ≡ true)) (λ x. x < legs_of I) (λ x both. both.0) (rotation I P p) (rotation-flown I P p) in
    let each : All (λ x. x < legs_of I) (map (λ (leg : Leg). leg.0) legs) = subst (All (λ x. x < legs_of I)) (sym are) below in
    let long : k < length (map (λ (leg : Leg). leg.0) legs) = rw (length-map legs (λ (leg : Leg). leg.0)) lt in
    subst (λ (x : ℕ). x < legs_of I) (get_or-map (λ (leg : Leg). leg.0) legs k d 0 lt) (each k 0 long)

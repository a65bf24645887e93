-- The leg before a leg is the one to its left among the legs of its aircraft in their order.
use Rattle.std.proofs.Common.{◌≡◌, ℕ, ◌+◌, ◌-◌, ◌<◌, ◌⊎◌, inl, inr, Bool, true, false, ◌&&◌, List, [], ◌∷◌, ◌++◌, length, take, get_or, map, refl, sym, ap, subst, ◌∙◌, arith}
use Rattle.std.specs.Prelude.{Option, Some, None, filter, find}
use Rattle.std.specs.List.{All, Contains}
use Rattle.std.specs.Option.{ForSome, option_map}
use Rattle.std.proofs.lemmas.Bool.{cases_Bool, and_parts, and_from}
use Rattle.std.proofs.lemmas.List.{map-id, get_or_default, take_more, take_all, append-nil, map_push}
use Rattle.std.proofs.lemmas.List.Elements.{All-push, filter-append}
use Rattle.desk_units.specs.declared.numbers.Leg.{Leg}
use Rattle.desk_data.specs.Situation.{Situation, legs_of}
use Rattle.desk_data.specs.PlanRows.{PlanRows, row_at}
use Rattle.desk_rules.specs.Numbers.{numbers, none_below}
use Rattle.desk_rules.specs.Rotations.{precedes, follows}
use Rattle.desk_rules.specs.Maintenance.{flies}
use Rattle.desk_rules.specs.Words.{Flies, Precedes}
use Rattle.desk_rules.proofs.FindLaws.{numbers_none, first_of_numbers}
use Rattle.desk_rules.proofs.Tests.{none_below-holds}
use Rattle.desk_rules.proofs.RotationLaws.{precedes-holds, precedes-from}
use Rattle.desk_rules.proofs.MaintenanceLaws.{flies-holds, flies-from}
use Rattle.plan_reads.specs.Before.{IsNearest, IsLegBefore}
use Rattle.plan_reads.proofs.OrderLaws.{not_both, comes_before-total}
use Rattle.plan_reads.proofs.BeforeLaws.{nearest_followed}
use Rattle.desk_model.specs.Push.{pushed_legs, rotation, leg_before}
use Rattle.desk_model.proofs.RotationOrder.{flown_once, precedes-trans, precedes-itself, rotation-ordered, rotation-flown, rotation-each}
use Rattle.hour_counts.specs.Placings.{IsPlacing, is_placed}
use Rattle.hour_counts.specs.declared.pushed.Placing.{Placing}

-- ---- the last leg before a leg is the leg before it

before-is : (I : Situation) (P : PlanRows) (x : ℕ) → leg_before I P x ≡ find (λ w. follows I P w x) (map (λ (k : ℕ). k) (numbers (legs_of I)))
before-is I P x = ap (find (λ w. follows I P w x)) (sym (map-id (numbers (legs_of I))))

-- and no other
followed_nearest : (I : Situation) (P : PlanRows) (y x z : ℕ) → IsNearest P.rows (legs_of I) y x → z < legs_of I → follows I P z y ≡ true → x ≡ z
followed_nearest I P y x z is lt next =
    let between = none_below (legs_of I) (λ k. precedes P z k && precedes P k y) in
    let parts = and_parts (precedes P z y) between next in
    elim (comes_before-total x z y (row_at P x) (row_at P z) (row_at P y) is.before parts.0 (is.nearest z lt parts.0)) [
      | inl same ↦ same
      | inr before ↦ absurd (not_both (precedes P z x && precedes P x y) (and_from (precedes P z x) (precedes P x y) before is.before)
          (none_below-holds (legs_of I) (λ k. precedes P z k && precedes P k y) parts.1 x is.within))
    ]

pub leg_before-is : (I : Situation) (P : PlanRows) (x : ℕ) (before : Option Leg) → IsLegBefore P.rows (legs_of I) x before → option_map (λ (leg : Leg). leg.0) before ≡ leg_before I P x
leg_before-is I P x None none =
    sym (before-is I P x ∙ numbers_none (λ w. follows I P w x) (λ (k : ℕ). k) (legs_of I) (λ w lt. elim (cases_Bool (follows I P w x)) [
      | inl next ↦ absurd (not_both (precedes P w x) (and_parts (precedes P w x) (none_below (legs_of I) (λ z. precedes P w z && precedes P z x)) next).0 (none w lt))
      | inr other ↦ other
    ]))
leg_before-is I P x (Some leg) is =
    sym (before-is I P x ∙ first_of_numbers (λ w. follows I P w x) (λ (k : ℕ). k) (legs_of I) leg.0 is.within (nearest_followed I P x leg.0 is) (λ j less. elim (cases_Bool (follows I P j x)) [
      | inl next ↦
          let in_j : j < legs_of I = omega (arith, less, is.within) in
          let same : leg.0 ≡ j = followed_nearest I P x leg.0 j is in_j next in
          absurd (omega (arith, same, less))
      | inr other ↦ other
    ]))

-- ---- the legs of an aircraft in their order

abbrev pub leg_in : List ℕ → ℕ → ℕ
leg_in legs k = get_or legs k 0

-- leg v stands to the left of place k
record IsLeft (legs : List ℕ) (k v : ℕ) : Type 0 where
  place : ℕ
  left : place < k
  is : leg_in legs place ≡ v

in_rotation : (I : Situation) (P : PlanRows) (p k v : ℕ) → k < length (rotation I P p) → v < legs_of I → Precedes P v (leg_in (rotation I P p) k) → Contains (rotation I P p) v
in_rotation I P p k v lt within before =
    let legs = rotation I P p in
    let x = leg_in legs k in
    let flown : flies P p x ≡ true = (rotation-flown I P p k 0 lt).1 in
    let plane : before.plane ≡ p = flown_once P x before.plane p before.later _ before.second (flies-holds P p x flown) in
    let first : Flies P v p before.dep = subst (λ (q : ℕ). Flies P v q before.dep) plane before.first in
    rotation-each I P p v within (flies-from P p v before.dep first)

is_left : (I : Situation) (P : PlanRows) (p k v : ℕ) → k < length (rotation I P p) → v < legs_of I → Precedes P v (leg_in (rotation I P p) k) → IsLeft (rotation I P p) k v
is_left I P p k v lt within before =
    let legs = rotation I P p in
    let at = in_rotation I P p k v lt within before in
    let j = at.0 in
    let in_j : j < length legs = at.1 in
    let here : leg_in legs j ≡ v = get_or_default legs j 0 v in_j ∙ at.2 in
    let cases : (j < k) ⊎ ((j ≡ k) ⊎ (k < j)) = grind arith in
    elim cases [
      | inl left ↦ record { place = j; left = left; is = here }
      | inr rest ↦ elim rest [
        | inl same ↦ absurd (precedes-itself P v (subst (Precedes P v) (sym (ap (leg_in legs) same) ∙ here) before))
        | inr right ↦
            let back : Precedes P (leg_in legs k) v = subst (Precedes P (leg_in legs k)) here (rotation-ordered I P p k j 0 right in_j) in
            absurd (precedes-itself P v (precedes-trans P v (leg_in legs k) v before back))
      ]
    ]

-- ---- the leg to the left

-- the leg at the place to the left of place k of these legs, if there is one
abbrev pub IsLeftOf : List ℕ → ℕ → Option Leg → Type 0
IsLeftOf legs k None = k ≡ 0
IsLeftOf legs k (Some leg) = (0 < k) × (leg_in legs (k - 1) ≡ leg.0)

none_left : (I : Situation) (P : PlanRows) (p v : ℕ) → 0 < length (rotation I P p) → v < legs_of I → precedes P v (leg_in (rotation I P p) 0) ≡ false
none_left I P p v lt within =
    elim (cases_Bool (precedes P v (leg_in (rotation I P p) 0))) [
      | inl before ↦ let left = is_left I P p 0 v lt within (precedes-holds P v (leg_in (rotation I P p) 0) before) in absurd (omega (arith, left.left))
      | inr other ↦ other
    ]

-- a leg before that at place k is not after the leg to the left of place k
none_between : (I : Situation) (P : PlanRows) (p k z : ℕ) → 0 < k → k < length (rotation I P p) → z < legs_of I → precedes P z (leg_in (rotation I P p) k) ≡ true → precedes P (leg_in (rotation I P p) (k - 1)) z ≡ false
none_between I P p k z some lt within before =
    let legs = rotation I P p in
    let w = leg_in legs (k - 1) in
    elim (cases_Bool (precedes P w z)) [
      | inr other ↦ other
      | inl past ↦
          let at = is_left I P p k z lt within (precedes-holds P z (leg_in legs k) before) in
          let j = at.place in
          let in_j : j < length legs = omega (arith, at.left) in
          let in_k : k - 1 < length legs = omega arith in
          let in_w : w < legs_of I = (rotation-flown I P p (k - 1) 0 in_k).0 in
          let further = is_left I P p j w in_j in_w (subst (Precedes P w) (sym at.is) (precedes-holds P w z past)) in
          let i = further.place in
          let less : i < k - 1 = omega (arith, further.left, at.left) in
          absurd (precedes-itself P w (subst (λ (u : ℕ). Precedes P u w) further.is (rotation-ordered I P p i (k - 1) 0 less in_k)))
    ]

pub left-before : (I : Situation) (P : PlanRows) (p k : ℕ) (before : Option Leg) → k < length (rotation I P p) → IsLeftOf (rotation I P p) k before → IsLegBefore P.rows (legs_of I) (leg_in (rotation I P p) k) before
left-before I P p k None lt first = λ v within.
    subst (λ (i : ℕ). precedes P v (leg_in (rotation I P p) i) ≡ false) (sym first) (none_left I P p v (omega (arith, first, lt)) within)
left-before I P p k (Some leg) lt left =
    let legs = rotation I P p in
    let some = left.0 in
    let in_k : k - 1 < length legs = omega (arith, some, lt) in
    let less : k - 1 < k = omega (arith, some) in
    subst (λ (w : ℕ). IsNearest P.rows (legs_of I) (leg_in legs k) w) left.1 (record {
      within = (rotation-flown I P p (k - 1) 0 in_k).0;
      before = precedes-from P (leg_in legs (k - 1)) (leg_in legs k) (rotation-ordered I P p (k - 1) k 0 less lt);
      nearest = λ z within before. none_between I P p k z some lt within before;
    })

-- ---- what is placed

in_range : (I : Situation) (P : PlanRows) (x : ℕ) (before : Option Leg) → IsLegBefore P.rows (legs_of I) x before → ForSome before (λ leg. leg.0 < legs_of I)
in_range I P x None is leg e = absurd cc
in_range I P x (Some other) is leg e =
    let same : other ≡ leg = cc in
    subst (λ (l : Leg). l.0 < legs_of I) same is.within

placed_in : (I : Situation) (P : PlanRows) (p k : ℕ) (before : Option Leg) (leg : Leg) → k < length (rotation I P p) → IsLeftOf (rotation I P p) k before → leg_in (rotation I P p) k ≡ leg.0 → IsPlacing I P (record { leg = leg; before = before })
placed_in I P p k before leg lt left here =
    let is : IsLegBefore P.rows (legs_of I) leg.0 before = subst (λ (x : ℕ). IsLegBefore P.rows (legs_of I) x before) here (left-before I P p k before lt left) in
    record {
      legs = record { leg = subst (λ (x : ℕ). x < legs_of I) here (rotation-flown I P p k 0 lt).0; before = in_range I P leg.0 before is };
      before = leg_before-is I P leg.0 before is;
    }

-- a leg of the rotation, with the leg to its left, is a placing
pub placed_at : (I : Situation) (P : PlanRows) (p k : ℕ) (legs : List ℕ) (before : Option Leg) (leg : Leg) → legs ≡ rotation I P p → k < length legs → IsLeftOf legs k before → leg_in legs k ≡ leg.0 → IsPlacing I P (record { leg = leg; before = before })
placed_at I P p k legs before leg is =
    subst (λ (xs : List ℕ). k < length xs → IsLeftOf xs k before → leg_in xs k ≡ leg.0 → IsPlacing I P (record { leg = leg; before = before })) (sym is) (placed_in I P p k before leg)

-- those of the first k legs that are placed
pub record ArePlaced (I : Situation) (P : PlanRows) (after : Option Leg) (legs : List ℕ) (k : ℕ) (all : List Placing) : Type 0 where
  pub legs_are : map (λ (placing : Placing). placing.leg.0) all ≡ filter (is_placed I P after) (take k legs)
  pub placings : All (IsPlacing I P) all

-- one more leg
pub left_next : (legs : List ℕ) (k : ℕ) (leg : Leg) → leg_in legs k ≡ leg.0 → IsLeftOf legs (k + 1) (Some leg)
left_next legs k leg here =
    let same : k + 1 - 1 ≡ k = omega arith in
    (omega arith, ap (leg_in legs) same ∙ here)

one_more : (test : ℕ → Bool) (legs : List ℕ) (k : ℕ) → k < length legs → filter test (take (k + 1) legs) ≡ filter test (take k legs) ++ filter test (leg_in legs k ∷ [])
one_more test legs k lt = ap (filter test) (take_more legs k 0 lt) ∙ filter-append test (take k legs) (leg_in legs k ∷ [])

pub placed-more : (I : Situation) (P : PlanRows) (after : Option Leg) (legs : List ℕ) (k : ℕ) (all : List Placing) (placing : Placing) → k < length legs → leg_in legs k ≡ placing.leg.0 → is_placed I P after placing.leg.0 ≡ true → IsPlacing I P placing → ArePlaced I P after legs k all → ArePlaced I P after legs (k + 1) (all ++ placing ∷ [])
placed-more I P after legs k all placing lt here holds one is =
    let test = is_placed I P after in
    let last : filter test (leg_in legs k ∷ []) ≡ placing.leg.0 ∷ [] = ap (λ (x : ℕ). filter test (x ∷ [])) here ∙ rw holds refl in
    record {
      legs_are = map_push (λ (placing : Placing). placing.leg.0) all placing
          ∙ ap (λ (xs : List ℕ). xs ++ placing.leg.0 ∷ []) is.legs_are
          ∙ sym (one_more test legs k lt ∙ ap (λ (xs : List ℕ). filter test (take k legs) ++ xs) last);
      placings = All-push (IsPlacing I P) all placing is.placings one;
    }

pub placed-same : (I : Situation) (P : PlanRows) (after : Option Leg) (legs : List ℕ) (k : ℕ) (all : List Placing) (leg : Leg) → k < length legs → leg_in legs k ≡ leg.0 → is_placed I P after leg.0 ≡ false → ArePlaced I P after legs k all → ArePlaced I P after legs (k + 1) all
placed-same I P after legs k all leg lt here fails is =
    let test = is_placed I P after in
    let last : filter test (leg_in legs k ∷ []) ≡ [] = ap (λ (x : ℕ). filter test (x ∷ [])) here ∙ rw fails refl in
    record {
      legs_are = is.legs_are ∙ sym (one_more test legs k lt ∙ ap (λ (xs : List ℕ). filter test (take k legs) ++ xs) last ∙ append-nil (filter test (take k legs)));
      placings = is.placings;
    }

-- all legs of the aircraft
pub placed-all : (I : Situation) (P : PlanRows) (p : ℕ) (after : Option Leg) (legs : List ℕ) (k : ℕ) (all : List Placing) → legs ≡ rotation I P p → k ≡ length legs → ArePlaced I P after legs k all → map (λ (placing : Placing). placing.leg.0) all ≡ pushed_legs I P p after
unfolding pushed_legs
placed-all I P p after legs k all is whole placed =
    placed.legs_are
    ∙ ap (filter (is_placed I P after)) (ap (λ (n : ℕ). take n legs) whole ∙ take_all (length legs) legs (omega arith) ∙ is)

-- What the sorted rotation legs say of the leg before a leg.
use Rattle.std.proofs.Common.{◌≡◌, ◌≢◌, ℕ, zero, suc, ◌+◌, ◌-◌, ◌<◌, ◌⊎◌, inl, inr, Bool, true, false, ◌&&◌, eqb, ltb, List, [], ◌∷◌, ◌++◌, length, get_or, set, refl, sym, ap, ◌∙◌, subst, arith, is_lt, add-one}
use Rattle.std.specs.Prelude.{Option, None}
use Rattle.std.specs.List.{All, Contains, filter_map}
use Rattle.std.specs.List.{IsDistinct}
use Rattle.std.specs.List.Sorted.{IsSorted, IsPermutation}
use Rattle.std.specs.Cmp.{IsTotalOrder, IsEquivalence, nat_cmp_total, nat_eq_equiv}
use Rattle.std.specs.declared.cmp.Ordering.{Ordering}
use Rattle.std.proofs.lemmas.Bool.Decides.{nat_tests}
use Rattle.std.proofs.lemmas.Bool.{cases_Bool, true≢false, and_parts}
use Rattle.std.proofs.lemmas.Cmp.{then_total, on_total, on_equiv}
use Rattle.std.proofs.lemmas.List.Elements.{All-nil, All-cons, All-append, All-weaker, Contains-append_left, Contains-append_right, filter_map-append}
use Rattle.std.proofs.lemmas.List.{append-nil, get_or_default, get_or-set_same, get_or-set_other}
use Rattle.std.proofs.lemmas.List.Folds.{list_any_none}
use Rattle.std.proofs.lemmas.List.Sorted.{ranks_by, sorted_far, All-permutation, Contains-permutation}
use Rattle.std.proofs.lemmas.Map.Keys.{IsDistinct-push, IsDistinct-IsPermutation, apart_from_distinct}
use Rattle.desk_units.specs.declared.numbers.Leg.{Leg}
use Rattle.desk_units.specs.declared.numbers.Plane.{Plane}
use Rattle.desk_units.specs.declared.numbers.Minute.{Minute}
use Rattle.desk_data.specs.declared.row.Row.{Row}
use Rattle.desk_data.specs.declared.row.Row.TheVariants.{Flown, Cancelled}
use Rattle.desk_rules.specs.Numbers.{numbers}
use Rattle.desk_rules.specs.Rotations.{is_earlier}
use Rattle.plan_reads.specs.declared.order.FlownLeg.{FlownLeg}
use Rattle.plan_reads.specs.Before.{precedes_in, IsNearest, IsLegBefore, AreBefore}
use Rattle.plan_reads.specs.Order.{rotation_leg_of, rotation_legs, rotation_leg_at, no_rotation_leg, neighbour}
use Rattle.plan_reads.proofs.OrderLaws.{not_both, rotation_legs_cmp, is_ahead, in_order, ahead-from_cmp, ahead-asymmetric, ahead-from_order, order-from_ahead, ahead-irreflexive, between}

abbrev row_in : List Row → ℕ → Row
row_in rows x = get_or rows x Cancelled

-- one more leg
pub rotation_legs-more : (rows : List Row) (n : ℕ) → rotation_legs rows (suc n) ≡ rotation_legs rows n ++ filter_map (λ x. rotation_leg_of x (row_in rows x)) (n ∷ [])
rotation_legs-more rows n = filter_map-append (λ x. rotation_leg_of x (row_in rows x)) (numbers n) (n ∷ [])

-- t is the rotation leg of one of the first n legs
pub record IsRotationLeg (rows : List Row) (n : ℕ) (t : FlownLeg) : Type 0 where
  pub within : t.at.leg.0 < n
  pub row : row_in rows t.at.leg.0 ≡ Flown t.plane t.at.dep

abbrev last_rotation_leg : ℕ → Row → List FlownLeg
last_rotation_leg n (Flown plane dep) = (let t : FlownLeg = record { plane = plane; at = record { dep = dep; leg = record { 0 = n } } } in t) ∷ []
last_rotation_leg n Cancelled = []

last_rotation_leg-is : (rows : List Row) (n : ℕ) (row : Row) → row_in rows n ≡ row → filter_map (λ x. rotation_leg_of x (row_in rows x)) (n ∷ []) ≡ last_rotation_leg n row
last_rotation_leg-is rows n (Flown plane dep) e = rw e refl
last_rotation_leg-is rows n Cancelled e = rw e refl

one_rotation_leg : (rows : List Row) (n : ℕ) (row : Row) → row_in rows n ≡ row → All (IsRotationLeg rows (suc n)) (last_rotation_leg n row)
one_rotation_leg rows n (Flown plane dep) e =
    All-cons (IsRotationLeg rows (suc n)) (record { plane = plane; at = record { dep = dep; leg = record { 0 = n } } }) [] (record { within = omega arith; row = e }) (All-nil (IsRotationLeg rows (suc n)))
one_rotation_leg rows n Cancelled e = All-nil (IsRotationLeg rows (suc n))

pub rotation_legs-sound : (rows : List Row) (n : ℕ) → All (IsRotationLeg rows n) (rotation_legs rows n)
rotation_legs-sound rows zero = All-nil (IsRotationLeg rows zero)
rotation_legs-sound rows (suc n) =
    subst (All (IsRotationLeg rows (suc n))) (sym (rotation_legs-more rows n ∙ ap (λ ts. rotation_legs rows n ++ ts) (last_rotation_leg-is rows n (row_in rows n) refl)))
    (All-append (IsRotationLeg rows (suc n)) (rotation_legs rows n) (last_rotation_leg n (row_in rows n))
    (All-weaker (IsRotationLeg rows n) (IsRotationLeg rows (suc n)) (λ t h. record { within = omega (arith, h.within); row = h.row }) (rotation_legs rows n) (rotation_legs-sound rows n))
    (one_rotation_leg rows n (row_in rows n) refl))

-- each flown leg has its rotation leg
one_whole : (n : ℕ) (row : Row) (plane : Plane) (dep : Minute) → row ≡ Flown plane dep → Contains (last_rotation_leg n row) (record { plane = plane; at = record { dep = dep; leg = record { 0 = n } } })
one_whole n row plane dep h =
    let t : FlownLeg = record { plane = plane; at = record { dep = dep; leg = record { 0 = n } } } in
    subst (λ r. Contains (last_rotation_leg n r) t) (sym h) (0, omega arith, refl)

last_is : (rows : List Row) (n : ℕ) (t : FlownLeg) → t.at.leg.0 ≡ n → row_in rows t.at.leg.0 ≡ Flown t.plane t.at.dep → Contains (last_rotation_leg n (row_in rows n)) t
last_is rows n t same h =
    subst (λ (k : ℕ). Contains (last_rotation_leg n (row_in rows n)) (record { plane = t.plane; at = record { dep = t.at.dep; leg = record { 0 = k } } })) (sym same)
    (one_whole n (row_in rows n) t.plane t.at.dep (ap (row_in rows) (sym same) ∙ h))

pub rotation_legs-whole : (rows : List Row) (n : ℕ) (t : FlownLeg) → IsRotationLeg rows n t → Contains (rotation_legs rows n) t
rotation_legs-whole rows zero t h = absurd (omega (arith, h.within))
rotation_legs-whole rows (suc n) t h =
    let cases : (t.at.leg.0 < n) ⊎ (t.at.leg.0 ≡ n) = grind (arith, h.within) in
    subst (λ ts. Contains ts t) (sym (rotation_legs-more rows n ∙ ap (λ ts. rotation_legs rows n ++ ts) (last_rotation_leg-is rows n (row_in rows n) refl)))
    (elim cases [
      | inl less ↦ Contains-append_left (rotation_legs rows n) (last_rotation_leg n (row_in rows n)) t (rotation_legs-whole rows n t (record { within = less; row = h.row }))
      | inr same ↦ Contains-append_right (rotation_legs rows n) (last_rotation_leg n (row_in rows n)) t
          (last_is rows n t same h.row)
    ])

-- no two rotation legs are of one leg
abbrev same_leg : FlownLeg → FlownLeg → Bool
same_leg s t = eqb s.at.leg.0 t.at.leg.0

same_leg_equiv : IsEquivalence same_leg
same_leg_equiv = on_equiv (λ t. t.at.leg.0) nat_eq_equiv

not_below : (n x : ℕ) → x < n → eqb n x ≡ false
not_below n x h = grind (arith, nat_tests)

apart_from_last : (rows : List Row) (n : ℕ) (plane : Plane) (dep : Minute) → All (λ t. same_leg (record { plane = plane; at = record { dep = dep; leg = record { 0 = n } } }) t ≡ false) (rotation_legs rows n)
apart_from_last rows n plane dep =
    All-weaker (IsRotationLeg rows n) (λ t. same_leg (record { plane = plane; at = record { dep = dep; leg = record { 0 = n } } }) t ≡ false)
    (λ t h. not_below n t.at.leg.0 h.within) (rotation_legs rows n) (rotation_legs-sound rows n)

one_apart : (rows : List Row) (n : ℕ) (row : Row) → IsDistinct same_leg (rotation_legs rows n) → IsDistinct same_leg (rotation_legs rows n ++ last_rotation_leg n row)
one_apart rows n (Flown plane dep) h =
    IsDistinct-push same_leg_equiv (rotation_legs rows n) (record { plane = plane; at = record { dep = dep; leg = record { 0 = n } } }) h
    (list_any_none (same_leg (record { plane = plane; at = record { dep = dep; leg = record { 0 = n } } })) (rotation_legs rows n) (apart_from_last rows n plane dep))
one_apart rows n Cancelled h = subst (IsDistinct same_leg) (sym (append-nil (rotation_legs rows n))) h

pub rotation_legs-apart : (rows : List Row) (n : ℕ) → IsDistinct same_leg (rotation_legs rows n)
unfolding IsDistinct
rotation_legs-apart rows zero = tt
rotation_legs-apart rows (suc n) =
    subst (IsDistinct same_leg) (sym (rotation_legs-more rows n ∙ ap (λ ts. rotation_legs rows n ++ ts) (last_rotation_leg-is rows n (row_in rows n) refl)))
    (one_apart rows n (row_in rows n) (rotation_legs-apart rows n))

-- where the rows are n, those of the first n legs are all
pub rotation_legs_of_all : (rows : List Row) (n : ℕ) (made : List FlownLeg) → length rows ≡ n → made ≡ rotation_legs rows n → made ≡ rotation_legs rows (length rows)
rotation_legs_of_all rows n made few is = is ∙ ap (rotation_legs rows) (sym few)

-- ---- the rotation legs, sorted

abbrev pub rotation_leg_cmp : FlownLeg → FlownLeg → Ordering
rotation_leg_cmp s t = rotation_legs_cmp s.plane.0 s.at.leg.0 s.at.dep.0 t.plane.0 t.at.leg.0 t.at.dep.0

rotation_leg_total : IsTotalOrder rotation_leg_cmp
rotation_leg_total = then_total (on_total (λ t. t.plane.0) nat_cmp_total) (then_total (on_total (λ t. t.at.dep.0) nat_cmp_total) (on_total (λ t. t.at.leg.0) nat_cmp_total))

abbrev ahead : FlownLeg → FlownLeg → Bool
ahead s t = is_ahead s.plane.0 s.at.leg.0 s.at.dep.0 t.plane.0 t.at.leg.0 t.at.dep.0

-- the rotation legs of the first n legs, each once, in strictly ascending order
pub record IsRotationLegOrder (rows : List Row) (n : ℕ) (ts : List FlownLeg) : Type 0 where
  pub sound : All (IsRotationLeg rows n) ts
  pub whole : (t : FlownLeg) → IsRotationLeg rows n t → Contains ts t
  pub rising : (i j : ℕ) → i < j → j < length ts → ahead (rotation_leg_at ts i) (rotation_leg_at ts j) ≡ true

pub sorted_rotation_legs : (rows : List Row) (n : ℕ) (made ts : List FlownLeg) → made ≡ rotation_legs rows n → IsPermutation made ts → IsSorted rotation_leg_cmp ts → IsRotationLegOrder rows n ts
sorted_rotation_legs rows n made ts is shuffled up =
    let moved : IsPermutation (rotation_legs rows n) ts = subst (λ xs. IsPermutation xs ts) is shuffled in
    let apart = IsDistinct-IsPermutation same_leg same_leg_equiv.symm (rotation_legs rows n) ts moved (rotation_legs-apart rows n) in
    record {
      sound = All-permutation (IsRotationLeg rows n) (rotation_legs rows n) ts moved (rotation_legs-sound rows n);
      whole = λ t h. Contains-permutation (rotation_legs rows n) ts t moved (rotation_legs-whole rows n t h);
      rising = λ i j lt within.
          let s = rotation_leg_at ts i in
          let t = rotation_leg_at ts j in
          ahead-from_cmp s.plane.0 s.at.leg.0 s.at.dep.0 t.plane.0 t.at.leg.0 t.at.dep.0
          (sorted_far (λ s t. is_lt (rotation_leg_cmp s t)) (ranks_by rotation_leg_total (λ t. t)) ts up i j no_rotation_leg (omega arith) within)
          (apart_from_distinct same_leg ts i j no_rotation_leg apart lt within);
    }

-- of two places the rotation leg at the one is not ahead of that at the other unless it stands to the left
pub left_of : (rows : List Row) (n : ℕ) (ts : List FlownLeg) (i j : ℕ) → IsRotationLegOrder rows n ts → i < length ts → j < length ts → ahead (rotation_leg_at ts i) (rotation_leg_at ts j) ≡ true → i < j
left_of rows n ts i j h a b first =
    let cases : (i < j) ⊎ ((i ≡ j) ⊎ (j < i)) = grind arith in
    let s = rotation_leg_at ts i in
    let t = rotation_leg_at ts j in
    elim cases [
      | inl less ↦ less
      | inr more ↦ elim more [
        | inl same ↦ absurd (not_both (ahead s s) (subst (λ k. ahead s (rotation_leg_at ts k) ≡ true) (sym same) first) (ahead-irreflexive s.plane.0 s.at.leg.0 s.at.dep.0))
        | inr less ↦ absurd (not_both (ahead s t) first (ahead-asymmetric t.plane.0 t.at.leg.0 t.at.dep.0 s.plane.0 s.at.leg.0 s.at.dep.0 (h.rising j i less a)))
      ]
    ]

-- a leg that comes before the leg at place k stands at a place to the left of it
pub record IsLeft (ts : List FlownLeg) (k x : ℕ) : Type 0 where
  pub place : ℕ
  pub left : place < k
  pub is : (rotation_leg_at ts place).at.leg.0 ≡ x
  pub plane : (rotation_leg_at ts place).plane.0 ≡ (rotation_leg_at ts k).plane.0

-- the test of two legs at their rotation legs
at_rotation_legs : (rows : List Row) (n : ℕ) (s t : FlownLeg) → IsRotationLeg rows n s → IsRotationLeg rows n t → precedes_in rows s.at.leg.0 t.at.leg.0 ≡ in_order s.plane.0 s.at.leg.0 s.at.dep.0 t.plane.0 t.at.leg.0 t.at.dep.0
at_rotation_legs rows n s t a b = rw (a.row, b.row) refl

flown_rotation_leg : (rows : List Row) (n x y : ℕ) (row : Row) → row_in rows x ≡ row → x < n → precedes_in rows x y ≡ true → (t : FlownLeg) × IsRotationLeg rows n t × (t.at.leg.0 ≡ x)
flown_rotation_leg rows n x y (Flown plane dep) e lt before = (record { plane = plane; at = record { dep = dep; leg = record { 0 = x } } }, record { within = lt; row = e }, refl)
flown_rotation_leg rows n x y Cancelled e lt before = absurd (true≢false (sym before ∙ rw e refl))

first_true : (a b : Bool) → (a && b) ≡ true → a ≡ true
first_true a b h = (and_parts a b h).0

equal_numbers : (a b : ℕ) → eqb a b ≡ true → a ≡ b
equal_numbers a b h = grind (arith, nat_tests)

equal_test : (a b : ℕ) → a ≡ b → eqb a b ≡ true
equal_test a b h = grind (arith, nat_tests)

pub before_is_left : (rows : List Row) (n : ℕ) (ts : List FlownLeg) (k x : ℕ) → IsRotationLegOrder rows n ts → k < length ts → x < n → precedes_in rows x (rotation_leg_at ts k).at.leg.0 ≡ true → IsLeft ts k x
before_is_left rows n ts k x h lt within before =
    let flown = flown_rotation_leg rows n x (rotation_leg_at ts k).at.leg.0 (row_in rows x) refl within before in
    let at = h.whole flown.0 flown.1 in
    let j = at.0 in
    let here : rotation_leg_at ts j ≡ flown.0 = get_or_default ts j no_rotation_leg flown.0 at.1 ∙ at.2 in
    let leg : (rotation_leg_at ts j).at.leg.0 ≡ x = ap (λ (t : FlownLeg). t.at.leg.0) here ∙ flown.2 in
    let s = rotation_leg_at ts j in
    let t = rotation_leg_at ts k in
    let order : in_order s.plane.0 s.at.leg.0 s.at.dep.0 t.plane.0 t.at.leg.0 t.at.dep.0 ≡ true =
    sym (at_rotation_legs rows n s t (h.sound j no_rotation_leg at.1) (h.sound k no_rotation_leg lt)) ∙ subst (λ (y : ℕ). precedes_in rows y t.at.leg.0 ≡ true) (sym leg) before in
    record {
      place = j;
      left = left_of rows n ts j k h at.1 lt (ahead-from_order s.plane.0 s.at.leg.0 s.at.dep.0 t.plane.0 t.at.leg.0 t.at.dep.0 order);
      is = leg;
      plane = equal_numbers s.plane.0 t.plane.0 (first_true (eqb s.plane.0 t.plane.0) (is_earlier s.at.leg.0 s.at.dep.0 t.at.leg.0 t.at.dep.0) order);
    }

-- the rotation legs of two places of one aircraft, by place
rising_before : (rows : List Row) (n : ℕ) (ts : List FlownLeg) (i k : ℕ) → IsRotationLegOrder rows n ts → i < k → k < length ts → eqb (rotation_leg_at ts i).plane.0 (rotation_leg_at ts k).plane.0 ≡ true → precedes_in rows (rotation_leg_at ts i).at.leg.0 (rotation_leg_at ts k).at.leg.0 ≡ true
rising_before rows n ts i k h less lt same =
    let s = rotation_leg_at ts i in
    let t = rotation_leg_at ts k in
    at_rotation_legs rows n s t (h.sound i no_rotation_leg (omega arith)) (h.sound k no_rotation_leg lt)
    ∙ order-from_ahead s.plane.0 s.at.leg.0 s.at.dep.0 t.plane.0 t.at.leg.0 t.at.dep.0 (h.rising i k less lt) same

-- where the rotation leg to the left is of another aircraft, no leg comes before
no_neighbour : (rows : List Row) (n : ℕ) (ts : List FlownLeg) (k : ℕ) → IsRotationLegOrder rows n ts → k < length ts → (0 < k → eqb (rotation_leg_at ts (k - 1)).plane.0 (rotation_leg_at ts k).plane.0 ≡ false) → (x : ℕ) → x < n → precedes_in rows x (rotation_leg_at ts k).at.leg.0 ≡ false
no_neighbour rows n ts k h lt other x within =
    elim (cases_Bool (precedes_in rows x (rotation_leg_at ts k).at.leg.0)) [
      | inr none ↦ none
      | inl before ↦
          let at = before_is_left rows n ts k x h lt within before in
          let j = at.place in
          let apart = other (omega (arith, at.left)) in
          let cases : (j < k - 1) ⊎ (j ≡ k - 1) = grind (arith, at.left) in
          let r = rotation_leg_at ts j in
          let s = rotation_leg_at ts (k - 1) in
          let t = rotation_leg_at ts k in
          absurd (not_both (eqb s.plane.0 t.plane.0)
          (elim cases [
            | inl less ↦ between r.plane.0 r.at.leg.0 r.at.dep.0 s.plane.0 s.at.leg.0 s.at.dep.0 t.plane.0 t.at.leg.0 t.at.dep.0
                (h.rising j (k - 1) less (omega arith)) (h.rising (k - 1) k (omega (arith, at.left)) lt) (equal_test r.plane.0 t.plane.0 at.plane)
            | inr same ↦ subst (λ (i : ℕ). eqb (rotation_leg_at ts i).plane.0 t.plane.0 ≡ true) same (equal_test r.plane.0 t.plane.0 at.plane)
          ])
          apart)
    ]

-- no leg comes between the rotation leg to the left and the rotation leg at place k
none_between : (rows : List Row) (n : ℕ) (ts : List FlownLeg) (k z : ℕ) → IsRotationLegOrder rows n ts → k < length ts → 0 < k → IsLeft ts k z → z < n → precedes_in rows (rotation_leg_at ts (k - 1)).at.leg.0 z ≡ false
none_between rows n ts k z h lt some at within =
    elim (cases_Bool (precedes_in rows (rotation_leg_at ts (k - 1)).at.leg.0 z)) [
      | inr none ↦ none
      | inl before ↦
          let s = rotation_leg_at ts (k - 1) in
          let t = rotation_leg_at ts at.place in
          let order : in_order s.plane.0 s.at.leg.0 s.at.dep.0 t.plane.0 t.at.leg.0 t.at.dep.0 ≡ true =
          sym (at_rotation_legs rows n s t (h.sound (k - 1) no_rotation_leg (omega arith)) (h.sound at.place no_rotation_leg (omega (arith, at.left))))
          ∙ subst (λ (y : ℕ). precedes_in rows s.at.leg.0 y ≡ true) (sym at.is) before in
          let left = left_of rows n ts (k - 1) at.place h (omega arith) (omega (arith, at.left)) (ahead-from_order s.plane.0 s.at.leg.0 s.at.dep.0 t.plane.0 t.at.leg.0 t.at.dep.0 order) in
          absurd (omega (arith, left, at.left))
    ]

-- where it is of the same aircraft, its leg is the leg before
left_nearest : (rows : List Row) (n : ℕ) (ts : List FlownLeg) (k : ℕ) → IsRotationLegOrder rows n ts → k < length ts → 0 < k → eqb (rotation_leg_at ts (k - 1)).plane.0 (rotation_leg_at ts k).plane.0 ≡ true → IsNearest rows n (rotation_leg_at ts k).at.leg.0 (rotation_leg_at ts (k - 1)).at.leg.0
left_nearest rows n ts k h lt some same = record {
  within = (h.sound (k - 1) no_rotation_leg (omega arith)).within;
  before = rising_before rows n ts (k - 1) k h (omega arith) lt same;
  nearest = λ z within before. none_between rows n ts k z h lt some (before_is_left rows n ts k z h lt within before) within;
}

is_below : (a b : ℕ) → ltb a b ≡ true → a < b
is_below a b h = grind (arith, nat_tests)

other_plane : (k : ℕ) (same : Bool) → 0 < k → (ltb 0 k && same) ≡ false → same ≡ false
other_plane k same less none = grind (arith, nat_tests)

pub neighbour_last : (rows : List Row) (n : ℕ) (ts : List FlownLeg) (k : ℕ) → IsRotationLegOrder rows n ts → k < length ts → IsLegBefore rows n (rotation_leg_at ts k).at.leg.0 (neighbour ts k)
neighbour_last rows n ts k h lt =
    let some = ltb 0 k in
    let same = eqb (rotation_leg_at ts (k - 1)).plane.0 (rotation_leg_at ts k).plane.0 in
    elim (cases_Bool (some && same)) [
      | inl here ↦
          let parts = and_parts some same here in
          rw here (left_nearest rows n ts k h lt (is_below 0 k parts.0) parts.1)
      | inr none ↦ rw none (no_neighbour rows n ts k h lt (λ less. other_plane k same less none))
    ]

-- ---- one more row

pub rotation_legs-flown : (rows : List Row) (n : ℕ) (plane : Plane) (dep : Minute) (d : Row) → n < length rows → get_or rows n d ≡ Flown plane dep → rotation_legs rows (n + 1) ≡ rotation_legs rows n ++ (let t : FlownLeg = record { plane = plane; at = record { dep = dep; leg = record { 0 = n } } } in t) ∷ []
rotation_legs-flown rows n plane dep d lt e =
    rw add-one (rotation_legs-more rows n ∙ ap (λ ts. rotation_legs rows n ++ ts) (last_rotation_leg-is rows n (Flown plane dep) (get_or_default rows n Cancelled d lt ∙ e)))

not_flown : (n : ℕ) (row : Row) → ((plane : Plane) (dep : Minute) → row ≡ Flown plane dep → ⊥) → last_rotation_leg n row ≡ []
not_flown n (Flown plane dep) none = absurd (none plane dep refl)
not_flown n Cancelled none = refl

pub rotation_legs-other : (rows : List Row) (n : ℕ) (d : Row) → n < length rows → ((plane : Plane) (dep : Minute) → get_or rows n d ≡ Flown plane dep → ⊥) → rotation_legs rows (n + 1) ≡ rotation_legs rows n
rotation_legs-other rows n d lt none =
    rw add-one (rotation_legs-more rows n
    ∙ ap (λ ts. rotation_legs rows n ++ ts) (last_rotation_leg-is rows n (row_in rows n) refl ∙ not_flown n (row_in rows n) (λ plane dep e. none plane dep (get_or_default rows n d Cancelled lt ∙ e)))
    ∙ append-nil (rotation_legs rows n))

-- ---- one more rotation leg

abbrev leg_in : List FlownLeg → ℕ → ℕ
leg_in ts k = (rotation_leg_at ts k).at.leg.0

other_place : (ts : List FlownLeg) (j k : ℕ) → j < k + 1 → eqb (leg_in ts j) (leg_in ts k) ≡ false → j < k
other_place ts j k within apart =
    let cases : (j < k) ⊎ (j ≡ k) = grind arith in
    elim cases [
      | inl less ↦ less
      | inr same ↦ absurd (not_both (eqb (leg_in ts k) (leg_in ts k)) (equal_test (leg_in ts k) (leg_in ts k) refl) (subst (λ (i : ℕ). eqb (leg_in ts i) (leg_in ts k) ≡ false) same apart))
    ]

unequal_numbers : (a b : ℕ) → eqb a b ≡ false → a ≢ b
unequal_numbers a b h same = not_both (eqb a b) (equal_test a b same) h

pub link_right : (rows : List Row) (n : ℕ) (ts : List FlownLeg) (k : ℕ) (before : List (Option Leg)) → IsRotationLegOrder rows n ts → k < length ts → length before ≡ n → ((j : ℕ) → j < k → IsLegBefore rows n (leg_in ts j) (get_or before (leg_in ts j) None)) → (j : ℕ) → j < k + 1 → IsLegBefore rows n (leg_in ts j) (get_or (set before (leg_in ts k) (neighbour ts k)) (leg_in ts j) None)
link_right rows n ts k before h lt legs right j within =
    let last = neighbour ts k in
    let room : leg_in ts k < length before = omega (arith, (h.sound k no_rotation_leg lt).within) in
    elim (cases_Bool (eqb (leg_in ts j) (leg_in ts k))) [
      | inl same ↦
          subst (λ (x : ℕ). IsLegBefore rows n x (get_or (set before (leg_in ts k) last) x None)) (sym (equal_numbers (leg_in ts j) (leg_in ts k) same))
          (rw (get_or-set_same before (leg_in ts k) last None room) (neighbour_last rows n ts k h lt))
      | inr apart ↦
          rw (get_or-set_other before (leg_in ts k) (leg_in ts j) last None (unequal_numbers (leg_in ts j) (leg_in ts k) apart))
          (right j (other_place ts j k within apart))
    ]

flown_not_cancelled : (plane : Plane) (dep : Minute) → Flown plane dep ≡ Cancelled → ⊥
flown_not_cancelled plane dep h = cc

pub link_blank : (rows : List Row) (n : ℕ) (ts : List FlownLeg) (k : ℕ) (before : List (Option Leg)) → IsRotationLegOrder rows n ts → k < length ts → (y : ℕ) → row_in rows y ≡ Cancelled → get_or before y None ≡ None → get_or (set before (leg_in ts k) (neighbour ts k)) y None ≡ None
link_blank rows n ts k before h lt y off blank =
    let other : y ≢ leg_in ts k = λ same. flown_not_cancelled (rotation_leg_at ts k).plane (rotation_leg_at ts k).at.dep (sym (h.sound k no_rotation_leg lt).row ∙ ap (row_in rows) (sym same) ∙ off) in
    get_or-set_other before (leg_in ts k) y (neighbour ts k) None other ∙ blank

-- ---- all rotation legs

none_before : (rows : List Row) (x y : ℕ) (row : Row) → row_in rows x ≡ row → row_in rows y ≡ Cancelled → precedes_in rows x y ≡ false
none_before rows x y (Flown plane dep) e off = rw (e, off) refl
none_before rows x y Cancelled e off = rw e refl

linked_at : (rows : List Row) (ts : List FlownLeg) (before : List (Option Leg)) → IsRotationLegOrder rows (length rows) ts → ((j : ℕ) → j < length ts → IsLegBefore rows (length rows) (leg_in ts j) (get_or before (leg_in ts j) None)) → ((y : ℕ) → y < length rows → row_in rows y ≡ Cancelled → get_or before y None ≡ None) → (y : ℕ) → y < length rows → (row : Row) → row_in rows y ≡ row → IsLegBefore rows (length rows) y (get_or before y None)
linked_at rows ts before h right blank y within (Flown plane dep) e =
    let t : FlownLeg = record { plane = plane; at = record { dep = dep; leg = record { 0 = y } } } in
    let at = h.whole t (record { within = within; row = e }) in
    let leg : leg_in ts at.0 ≡ y = ap (λ (t : FlownLeg). t.at.leg.0) (get_or_default ts at.0 no_rotation_leg t at.1 ∙ at.2) in
    subst (λ (x : ℕ). IsLegBefore rows (length rows) x (get_or before x None)) leg (right at.0 at.1)
linked_at rows ts before h right blank y within Cancelled e =
    rw (blank y within e) (λ x lt. none_before rows x y (row_in rows x) refl e)

pub linked : (rows : List Row) (ts : List FlownLeg) (before : List (Option Leg)) → IsRotationLegOrder rows (length rows) ts → length before ≡ length rows → ((j : ℕ) → j < length ts → IsLegBefore rows (length rows) (leg_in ts j) (get_or before (leg_in ts j) None)) → ((y : ℕ) → y < length rows → row_in rows y ≡ Cancelled → get_or before y None ≡ None) → AreBefore rows before
linked rows ts before h legs right blank = record {
  legs = legs;
  each = λ y within. linked_at rows ts before h right blank y within (row_in rows y) refl;
}

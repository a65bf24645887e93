-- The units of an owner.
use Rattle.std.proofs.Common.{◌≡◌, ℕ, ◌+◌, ◌<◌, ◌≤◌, Bool, true, false, cond, not, ltb, eqb, List, [], ◌∷◌, ◌++◌, length, get_or, map, take, refl, sym, ap, subst, ◌∙◌}
use Rattle.std.specs.Prelude.{filter}
use Rattle.std.specs.List.{All, flat_map}
use Rattle.std.proofs.lemmas.List.{append-nil, map-append}
use Rattle.std.proofs.lemmas.List.Concat.{flat_map-append}
use Rattle.std.proofs.lemmas.List.Elements.{All-map, All-filter, filter_more}
use Rattle.std.proofs.lemmas.Simd.{map-map}
use Rattle.desk_units.specs.declared.numbers.Leg.{Leg}
use Rattle.desk_units.specs.declared.numbers.Plane.{Plane}
use Rattle.desk_data.specs.Situation.{Situation, legs_of, planes_of}
use Rattle.desk_data.specs.PlanRows.{PlanRows, row_at}
use Rattle.near_moves.specs.MoveParts.{flier, family_of, is_run}
use Rattle.near_moves.specs.Units.{swapped, restored, handed}
use Rattle.near_moves.specs.LegMoves.{later_of_family, run_lengths}
use Rattle.near_moves.proofs.ListLaws.{All_flat_map}
use Rattle.near_legs.specs.declared.unit.LegUnit.{LegUnit}
use Rattle.near_legs.specs.declared.unit.LegUnit.TheVariants as units
use Rattle.near_legs.specs.Choices.{unit_of, IsLegUnit, IsFlownLeg, AreInRange, IsHandedOf}
use Rattle.near_legs.specs.Walk.{handed_of_run}
use Rattle.near_legs.proofs.ChoiceLaws.{map-filter}
use Rattle.near_legs.proofs.RunLaws.{all_taken}

-- ---- swaps

pub pairs-are : (I : Situation) (p : Plane) (family : List Plane) (made : List LegUnit) → map (λ (q : Plane). q.0) family ≡ family_of I p.0 → made ≡ map (λ q. units.Swapped p q) (filter (λ (q : Plane). ltb p.0 q.0) family) → map unit_of made ≡ map (swapped p.0) (later_of_family I p.0)
pairs-are I p family made are is =
    let later = filter (λ (q : Plane). ltb p.0 q.0) family in
    ap (map unit_of) is
    ∙ map-map unit_of (λ q. units.Swapped p q) later
    ∙ sym (map-map (swapped p.0) (λ (q : Plane). q.0) later)
    ∙ ap (map (swapped p.0)) (map-filter (λ (q : Plane). q.0) (λ r. ltb p.0 r) family ∙ ap (filter (λ r. ltb p.0 r)) are)

pub pairs-sound : (I : Situation) (p : Plane) (family : List Plane) (made : List LegUnit) → p.0 < planes_of I → All (λ q. q.0 < planes_of I) family → made ≡ map (λ q. units.Swapped p q) (filter (λ (q : Plane). ltb p.0 q.0) family) → All (AreInRange I) made
pairs-sound I p family made first within is =
    let later = filter (λ (q : Plane). ltb p.0 q.0) family in
    subst (All (AreInRange I)) (sym is)
    (All-map (AreInRange I) (λ q. units.Swapped p q) later (λ k d lt. (first, All-filter (λ (q : Plane). ltb p.0 q.0) (λ (q : Plane). q.0 < planes_of I) family within k d lt)))

-- ---- legs that are flown again

pub planes-are : (I : Situation) (leg : Leg) (p : ℕ) (family : List Plane) (made : List LegUnit) → map (λ (q : Plane). q.0) family ≡ family_of I p → made ≡ map (λ q. units.Restored leg q) family → map unit_of made ≡ map (restored leg.0) (family_of I p)
planes-are I leg p family made are is =
    ap (map unit_of) is ∙ map-map unit_of (λ q. units.Restored leg q) family ∙ sym (map-map (restored leg.0) (λ (q : Plane). q.0) family) ∙ ap (map (restored leg.0)) are

pub planes-sound : (I : Situation) (leg : Leg) (family : List Plane) (made : List LegUnit) → leg.0 < legs_of I → All (λ q. q.0 < planes_of I) family → made ≡ map (λ q. units.Restored leg q) family → All (AreInRange I) made
planes-sound I leg family made inside within is =
    subst (All (AreInRange I)) (sym is) (All-map (AreInRange I) (λ q. units.Restored leg q) family (λ k d lt. (inside, within k d lt)))

-- ---- runs that are handed on

-- a run with each other aircraft of some
abbrev pub others_with : Leg → ℕ → List Plane → ℕ → List LegUnit
others_with leg p family k = map (λ q. units.Handed leg k q) (filter (λ (q : Plane). not (eqb q.0 p)) family)

pub runs_yes : {X : Type 0} (f : ℕ → List X) (test : ℕ → Bool) (items : List ℕ) (i : ℕ) → i < length items → test (get_or items i 0) ≡ true → flat_map f (filter test (take (i + 1) items)) ≡ flat_map f (filter test (take i items)) ++ f (get_or items i 0)
runs_yes f test items i lt holds =
    ap (flat_map f) (filter_more test items i 0 lt ∙ ap (λ (b : Bool). filter test (take i items) ++ cond b (get_or items i 0 ∷ []) []) holds)
    ∙ flat_map-append f (filter test (take i items)) (get_or items i 0 ∷ [])
    ∙ ap (λ ys. flat_map f (filter test (take i items)) ++ ys) (append-nil (f (get_or items i 0)))

pub runs_no : {X : Type 0} (f : ℕ → List X) (test : ℕ → Bool) (items : List ℕ) (i : ℕ) → i < length items → test (get_or items i 0) ≡ false → flat_map f (filter test (take (i + 1) items)) ≡ flat_map f (filter test (take i items))
runs_no f test items i lt fails =
    ap (flat_map f) (filter_more test items i 0 lt ∙ ap (λ (b : Bool). filter test (take i items) ++ cond b (get_or items i 0 ∷ []) []) fails ∙ append-nil (filter test (take i items)))

others-are : (I : Situation) (P : PlanRows) (leg : Leg) (p k : ℕ) (family : List Plane) → p ≡ flier (row_at P leg.0) → map (λ (q : Plane). q.0) family ≡ family_of I p → map unit_of (others_with leg p family k) ≡ handed_of_run I P leg.0 k
others-are I P leg p k family by are =
    let others = filter (λ (q : Plane). not (eqb q.0 p)) family in
    map-map unit_of (λ q. units.Handed leg k q) others
    ∙ sym (map-map (handed leg.0 k) (λ (q : Plane). q.0) others)
    ∙ ap (map (handed leg.0 k)) (map-filter (λ (q : Plane). q.0) (λ r. not (eqb r p)) family ∙ ap (filter (λ r. not (eqb r p))) are)
    ∙ ap (λ (r : ℕ). map (handed leg.0 k) (filter (λ s. not (eqb s r)) (family_of I r))) by

all_others : (I : Situation) (P : PlanRows) (leg : Leg) (p : ℕ) (family : List Plane) (ks : List ℕ) → p ≡ flier (row_at P leg.0) → map (λ (q : Plane). q.0) family ≡ family_of I p → map unit_of (flat_map (others_with leg p family) ks) ≡ flat_map (handed_of_run I P leg.0) ks
all_others I P leg p family [] by are = refl
all_others I P leg p family (k ∷ ks) by are =
    map-append unit_of (others_with leg p family k) (flat_map (others_with leg p family) ks)
    ∙ ap (λ ys. ys ++ map unit_of (flat_map (others_with leg p family) ks)) (others-are I P leg p k family by are)
    ∙ ap (λ ys. handed_of_run I P leg.0 k ++ ys) (all_others I P leg p family ks by are)

pub runs-are : (I : Situation) (P : PlanRows) (leg : Leg) (p : ℕ) (family : List Plane) (made : List LegUnit) (items : List ℕ) (n : ℕ) → p ≡ flier (row_at P leg.0) → map (λ (q : Plane). q.0) family ≡ family_of I p → made ≡ flat_map (others_with leg p family) (filter (is_run I P leg.0) (take n items)) → items ≡ run_lengths → length items ≤ n → map unit_of made ≡ flat_map (handed_of_run I P leg.0) (filter (is_run I P leg.0) run_lengths)
runs-are I P leg p family made items n by are is same long =
    ap (map unit_of) is
    ∙ all_others I P leg p family (filter (is_run I P leg.0) (take n items)) by are
    ∙ ap (λ (ks : List ℕ). flat_map (handed_of_run I P leg.0) (filter (is_run I P leg.0) ks)) (all_taken items n long ∙ same)

others-sound : (I : Situation) (leg : Leg) (p k : ℕ) (family : List Plane) → All (λ q. q.0 < planes_of I) family → All (IsHandedOf I leg.0) (others_with leg p family k)
others-sound I leg p k family within =
    All-map (IsHandedOf I leg.0) (λ q. units.Handed leg k q) (filter (λ (q : Plane). not (eqb q.0 p)) family)
    (λ i d lt. (refl, All-filter (λ (q : Plane). not (eqb q.0 p)) (λ (q : Plane). q.0 < planes_of I) family within i d lt))

pub runs-sound : (I : Situation) (leg : Leg) (p : ℕ) (family : List Plane) (made : List LegUnit) (ks : List ℕ) → All (λ q. q.0 < planes_of I) family → made ≡ flat_map (others_with leg p family) ks → All (IsHandedOf I leg.0) made
runs-sound I leg p family made ks within is =
    subst (All (IsHandedOf I leg.0)) (sym is) (All_flat_map (IsHandedOf I leg.0) (others_with leg p family) ks (λ i d lt. others-sound I leg p (get_or ks i d) family within))

-- ---- what is in range and flown

range_sound : (I : Situation) (P : PlanRows) (u : LegUnit) → AreInRange I u → IsLegUnit I P u
range_sound I P (units.Retimed leg) range = absurd range
range_sound I P (units.Swapped first second) range = range
range_sound I P (units.Dropped leg) range = absurd range
range_sound I P (units.Restored leg p) range = range
range_sound I P (units.Handed leg k p) range = absurd range

pub all_in_range : (I : Situation) (P : PlanRows) (made : List LegUnit) → All (AreInRange I) made → All (IsLegUnit I P) made
all_in_range I P made range = λ k d lt. range_sound I P (get_or made k d) (range k d lt)

handed_sound : (I : Situation) (P : PlanRows) (x : ℕ) (u : LegUnit) → IsFlownLeg I P x → IsHandedOf I x u → IsLegUnit I P u
handed_sound I P x (units.Retimed leg) flown is = absurd is
handed_sound I P x (units.Swapped first second) flown is = absurd is
handed_sound I P x (units.Dropped leg) flown is = absurd is
handed_sound I P x (units.Restored leg p) flown is = absurd is
handed_sound I P x (units.Handed leg k p) flown is = (subst (IsFlownLeg I P) (sym is.0) flown, is.1)

pub all_handed : (I : Situation) (P : PlanRows) (x : ℕ) (made : List LegUnit) → IsFlownLeg I P x → All (IsHandedOf I x) made → All (IsLegUnit I P) made
all_handed I P x made flown all = λ k d lt. handed_sound I P x (get_or made k d) flown (all k d lt)
